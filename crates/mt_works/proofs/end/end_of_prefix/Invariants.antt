use Rattle.std.proofs.Common.{ℕ, List, nat_eq, length}
use Rattle.std.specs.Prelude.{IsTrue}
use Rattle.std.specs.List.{starts_with}
use Rattle.mt_works.proofs.end.end_of_prefix.Given as goal

-- what begins with the prefix begins with what is left of it
abbrev pub invariant-loop-last : goal.invariant-loop-last
invariant-loop-last l = (key : List ℕ) → IsTrue (starts_with nat_eq key l.prefix) → IsTrue (starts_with nat_eq key l.bytes.items)

abbrev pub decreases-loop-last : goal.decreases-loop-last
decreases-loop-last l = length l.bytes.items
