use Rattle.mt_promise.proofs.headline.legal_histories_keep_the_promise.Goals as goal
use Rattle.mt_promise.proofs.KeepLemmas.{keeps_promise}

pub returns : goal.returns
returns c = keeps_promise
