-- The law, by its lemmas.
use Rattle.mt_chart.proofs.BorderLaws.{dropping_layer}
use Rattle.mt_chart.proofs.border_laws.dropping_a_layer_keeps.Goals as goal

pub returns : goal.returns
returns c = dropping_layer
