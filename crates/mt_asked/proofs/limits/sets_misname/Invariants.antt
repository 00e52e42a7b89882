use Rattle.std.proofs.Common.{◌≡◌, drop, map}
use Rattle.mt_types.specs.Limits.{misnames}
use Rattle.mt_asked.specs.Borrowed.{sets_of}
use Rattle.mt_asked.proofs.limits.sets_misname.Given as goal

abbrev pub invariant-loop-i : goal.invariant-loop-i
invariant-loop-i l =
    misnames l.columns (map (λ set. set.0) (sets_of (drop l.i l.sets)))
    ≡ misnames l.columns (map (λ set. set.0) (sets_of l.sets))
