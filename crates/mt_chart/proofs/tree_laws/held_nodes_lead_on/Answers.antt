-- The law, by its lemmas.
use Rattle.mt_chart.proofs.Ranges.{holds_top}
use Rattle.mt_chart.proofs.TreeLemmas.{roots_held, children_held, some_child, rights_held, links_held}
use Rattle.mt_chart.proofs.tree_laws.held_nodes_lead_on.Goals as goal

pub returns-clause-top : goal.returns-clause-top
returns-clause-top c = holds_top

pub returns-clause-root : goal.returns-clause-root
returns-clause-root c = roots_held

pub returns-clause-child : goal.returns-clause-child
returns-clause-child c = children_held

pub returns-clause-some_child : goal.returns-clause-some_child
returns-clause-some_child c = some_child

pub returns-clause-right : goal.returns-clause-right
returns-clause-right c = rights_held

pub returns-clause-linked : goal.returns-clause-linked
returns-clause-linked c = links_held
