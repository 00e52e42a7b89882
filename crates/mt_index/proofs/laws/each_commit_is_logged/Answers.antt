use Rattle.mt_index.proofs.LawLemmas.{each_commit_is_logged}
use Rattle.mt_index.proofs.laws.each_commit_is_logged.Goals as goal

pub returns : goal.returns
returns c = each_commit_is_logged
