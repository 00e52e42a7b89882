use Rattle.mt_steps.proofs.LoneWay.{way_left}
use Rattle.mt_walk.proofs.DescentLemmas.{IsSeeking}
use Rattle.mt_walk.proofs.descent.border_for.Given as goal

abbrev pub invariant-loop-next : goal.invariant-loop-next
invariant-loop-next l = IsSeeking l.tree l.fn.from.0 l.slice l.node.0

abbrev pub decreases-loop-next : goal.decreases-loop-next
decreases-loop-next l = way_left l.tree 0 l.node.0
