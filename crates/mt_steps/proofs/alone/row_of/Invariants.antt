use Rattle.mt_steps.proofs.LoneWay.{way_left}
use Rattle.mt_steps.proofs.LoneRow.{IsSought}
use Rattle.mt_steps.proofs.alone.row_of.Given as goal

-- it is on its way, at a node that is on
abbrev pub invariant-loop-row : goal.invariant-loop-row
invariant-loop-row l = IsSought l.tree l.key l.way

abbrev pub decreases-loop-row : goal.decreases-loop-row
decreases-loop-row l = way_left l.tree l.way.layer l.way.node.0
