use Rattle.mt_steps.proofs.LoneWay.{way_left}
use Rattle.mt_steps.proofs.LoneRow.{IsSought}
use Rattle.mt_reads.proofs.nearby.step.Given as goal

-- it is on its way, at a node that is on
abbrev pub invariant-loop-next : goal.invariant-loop-next
invariant-loop-next l = IsSought l.tree l.key l.way

abbrev pub decreases-loop-next : goal.decreases-loop-next
decreases-loop-next l = way_left l.tree l.way.layer l.way.node.0
