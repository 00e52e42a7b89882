-- The law, by its lemmas.
use Rattle.mt_chart.proofs.TreeLemmas.{one_row_each}
use Rattle.mt_chart.proofs.tree_laws.keys_have_one_row.Goals as goal

pub returns : goal.returns
returns c = one_row_each
