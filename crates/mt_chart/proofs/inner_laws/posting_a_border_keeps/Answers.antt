-- The law, by its lemmas.
use Rattle.mt_chart.proofs.InteriorLaws.{posting_border}
use Rattle.mt_chart.proofs.inner_laws.posting_a_border_keeps.Goals as goal

pub returns : goal.returns
returns c = posting_border
