use Rattle.mt_tree.proofs.IntervalLemmas.{held_intervals}
use Rattle.mt_tree.proofs.laws.held_borders_have_intervals.Goals as goal

pub returns : goal.returns
returns c = held_intervals
