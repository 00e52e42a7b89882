-- The law, by its lemmas.
use Rattle.mt_chart.proofs.Posting.{posting_falls}
use Rattle.mt_chart.proofs.ending_laws.postings_end.Goals as goal

pub returns : goal.returns
returns c = posting_falls
