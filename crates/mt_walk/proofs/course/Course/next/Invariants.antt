use Rattle.std.proofs.Common.{ℕ, Bool, false, List, []}
use Rattle.mt_walk.specs.Walk.{course_of, walk_of}
use Rattle.mt_walk.specs.Standing.{IsWalk}
use Rattle.mt_walk.specs.Steps.{GoesOn}
use Rattle.mt_walk.proofs.Moves.{walk_left}
use Rattle.mt_walk.proofs.course.Course.next.Given as goal

-- it stands in the same tree, and in the same place in the order of keys
abbrev pub invariant-loop-entry : goal.invariant-loop-entry
invariant-loop-entry l = (key : List ℕ) (given : Bool) → IsWalk (walk_of (course_of l.fn.self) key given) → GoesOn (walk_of (course_of l.fn.self) key given) (walk_of (course_of l.self) key given)

abbrev pub decreases-loop-entry : goal.decreases-loop-entry
decreases-loop-entry l = walk_left (walk_of (course_of l.self) [] false)
