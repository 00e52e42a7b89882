-- The law, by its lemmas.
use Rattle.mt_chart.proofs.TreeLemmas.{rows_in_borders}
use Rattle.mt_chart.proofs.tree_laws.rows_are_in_borders.Goals as goal

pub returns : goal.returns
returns c = rows_in_borders
