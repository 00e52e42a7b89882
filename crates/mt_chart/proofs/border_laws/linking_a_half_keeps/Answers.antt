-- The law, by its lemmas.
use Rattle.mt_chart.proofs.BorderLaws.{linking}
use Rattle.mt_chart.proofs.border_laws.linking_a_half_keeps.Goals as goal

pub returns : goal.returns
returns c = linking
