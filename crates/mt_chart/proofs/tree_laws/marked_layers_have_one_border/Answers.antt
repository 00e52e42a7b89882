-- The law, by its lemmas.
use Rattle.mt_chart.proofs.MarkedHeads.{marked_layers}
use Rattle.mt_chart.proofs.tree_laws.marked_layers_have_one_border.Goals as goal

pub returns : goal.returns
returns c = marked_layers
