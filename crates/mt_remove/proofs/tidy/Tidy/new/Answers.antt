use Rattle.mt_remove.proofs.LawLemmas.{begins}
use Rattle.mt_remove.proofs.tidy.Tidy.new.Goals as goal

pub returns-clause-begins : goal.returns-clause-begins
returns-clause-begins c = begins c.args.key
