use Rattle.mt_view.proofs.AfreshLemmas.{applied_is_afresh}
use Rattle.mt_view.proofs.laws.deltas_keep_afresh.Goals as goal

pub returns : goal.returns
returns c = applied_is_afresh
