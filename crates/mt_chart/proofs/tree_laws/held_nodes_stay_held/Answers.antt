-- The law, by its lemmas.
use Rattle.mt_chart.proofs.HeldNodes.{holds_kept, evolves_again}
use Rattle.mt_chart.proofs.tree_laws.held_nodes_stay_held.Goals as goal

pub returns-clause-lasting : goal.returns-clause-lasting
returns-clause-lasting c = holds_kept

pub returns-clause-again : goal.returns-clause-again
returns-clause-again c = evolves_again
