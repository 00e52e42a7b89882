use Rattle.std.proofs.Common.{length}
use Rattle.mt_walk.proofs.Starts.{IsStarting}
use Rattle.mt_walk.proofs.course.Course.begin.Given as goal

-- it is in the layer of its path, at its head
abbrev pub invariant-loop-below : goal.invariant-loop-below
invariant-loop-below l = IsStarting l.tree l.start l.path.items l.head.0 l.rest

abbrev pub decreases-loop-below : goal.decreases-loop-below
decreases-loop-below l = length l.rest
