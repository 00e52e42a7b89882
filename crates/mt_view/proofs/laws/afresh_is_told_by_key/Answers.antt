use Rattle.mt_view.proofs.AfreshLemmas.{afresh_at, afresh_from_each}
use Rattle.mt_view.proofs.laws.afresh_is_told_by_key.Goals as goal

pub returns : goal.returns
returns c = λ state rows. (afresh_at state rows, afresh_from_each state rows)
