-- The law, by its lemmas.
use Rattle.mt_chart.proofs.BorderLaws.{making_layer}
use Rattle.mt_chart.proofs.border_laws.making_a_layer_keeps.Goals as goal

pub returns : goal.returns
returns c = making_layer
