use Rattle.std.proofs.Common.{◌≡◌, drop, map}
use Rattle.mt_types.specs.Limits.{misnames}
use Rattle.mt_types.proofs.limits.sets_misname.Given as goal

abbrev pub invariant-loop-i : goal.invariant-loop-i
invariant-loop-i l = misnames l.columns (map (λ set. set.0) (drop l.i l.sets)) ≡ misnames l.columns (map (λ set. set.0) l.sets)
