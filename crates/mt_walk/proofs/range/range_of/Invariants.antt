use Rattle.std.proofs.Common.{ℕ, Bool, List}
use Rattle.mt_walk.specs.Walk.{course_of, walk_of}
use Rattle.mt_walk.specs.Gathered.{AreKeys, pairs_of}
use Rattle.mt_walk.proofs.Ranges.{IsRanging}
use Rattle.mt_walk.proofs.range.range_of.Given as goal

-- it has gathered as many pairs as a walk of some key has given
abbrev pub invariant-loop : goal.invariant-loop
invariant-loop l = record {
  keys : AreKeys l.keys.items 0 l.rows.items;
  ranging : (key : List ℕ) × (given : Bool) × IsRanging l.tree l.start l.columns (walk_of (course_of l.course) key given) (pairs_of l.columns l.keys.items 0 l.rows.items) l.counter;
}
