use Rattle.mt_tree.proofs.HeldLemmas.{held_may_visit}
use Rattle.mt_tree.proofs.laws.held_nodes_may_be_visited.Goals as goal

pub returns : goal.returns
returns c = held_may_visit
