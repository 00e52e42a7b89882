use Rattle.mt_works.proofs.ReadLemmas.{builds_exact}
use Rattle.mt_works.proofs.laws.builds_are_exact.Goals as goal

pub returns : goal.returns
returns c = builds_exact
