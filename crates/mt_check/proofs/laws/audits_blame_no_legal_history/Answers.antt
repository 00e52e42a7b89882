use Rattle.mt_check.proofs.BlameLemmas.{audits_blame_none}
use Rattle.mt_check.proofs.laws.audits_blame_no_legal_history.Goals as goal

pub returns : goal.returns
returns c = audits_blame_none
