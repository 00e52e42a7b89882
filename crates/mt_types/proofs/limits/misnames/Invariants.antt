use Rattle.std.proofs.Common.{◌≡◌, drop}
use Rattle.mt_types.specs.Limits.{misnames}
use Rattle.mt_types.proofs.limits.misnames.Given as goal

abbrev pub invariant-loop-i : goal.invariant-loop-i
invariant-loop-i l = misnames l.columns (drop l.i l.names) ≡ misnames l.columns l.names
