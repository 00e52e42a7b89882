use Rattle.mt_promise.proofs.LimitedLemmas.{outcomes_are_limited}
use Rattle.mt_promise.proofs.limited.outcomes_are_limited.Goals as goal

pub returns : goal.returns
returns c = outcomes_are_limited
