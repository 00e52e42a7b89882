use Rattle.std.proofs.Common.{ℕ}
use Rattle.mt_steps.proofs.LoneWay.{way_left}
use Rattle.mt_steps.proofs.LoneRow.{IsSought}
use Rattle.mt_walk.specs.Emptied.{Reaches}
use Rattle.mt_walk.proofs.emptied.is_emptied.Given as goal

-- it is on its way, at a node that is on, which it has reached by some visits
abbrev pub invariant-loop-next : goal.invariant-loop-next
invariant-loop-next l = IsSought l.tree l.key l.way × (visits : ℕ) × Reaches l.tree l.key visits l.way

abbrev pub decreases-loop-next : goal.decreases-loop-next
decreases-loop-next l = way_left l.tree l.way.layer l.way.node.0
