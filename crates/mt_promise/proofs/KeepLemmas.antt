-- A legal history keeps the promise.
use Rattle.mt_promise.proofs.GetLemmas.{legal_gets}
use Rattle.mt_promise.proofs.PageLemmas.{legal_views}
use Rattle.mt_promise.proofs.RangeLemmas.{legal_ranges}
use Rattle.mt_promise.specs.Headline.{LegalHistoriesKeepThePromise}

pub keeps_promise : LegalHistoriesKeepThePromise
keeps_promise C h legal = record { gets = legal_gets C h legal; ranges = legal_ranges C h legal; views = legal_views C h legal }
