-- The law, by its lemmas.
use Rattle.mt_chart.proofs.TreeLemmas.{free_interiors_on}
use Rattle.mt_chart.proofs.TreeLemmas.{left_found}
use Rattle.mt_chart.proofs.TreeLemmas.{nodes_there, borders_on}
use Rattle.mt_chart.proofs.tree_laws.held_nodes_are_there.Goals as goal

pub returns-clause-there : goal.returns-clause-there
returns-clause-there c = nodes_there

pub returns-clause-borders : goal.returns-clause-borders
returns-clause-borders c = borders_on

pub returns-clause-interiors : goal.returns-clause-interiors
returns-clause-interiors c = free_interiors_on

pub returns-clause-left : goal.returns-clause-left
returns-clause-left c = left_found
