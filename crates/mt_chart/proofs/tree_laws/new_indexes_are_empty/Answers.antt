-- The law, by its lemmas.
use Rattle.mt_chart.proofs.TreeLemmas.{first_row}
use Rattle.mt_chart.proofs.TreeLemmas.{new_index, new_index_empty}
use Rattle.mt_chart.proofs.tree_laws.new_indexes_are_empty.Goals as goal

pub returns-clause-index : goal.returns-clause-index
returns-clause-index c = new_index

pub returns-clause-empty : goal.returns-clause-empty
returns-clause-empty c = new_index_empty

pub returns-clause-shows : goal.returns-clause-shows
returns-clause-shows c = first_row
