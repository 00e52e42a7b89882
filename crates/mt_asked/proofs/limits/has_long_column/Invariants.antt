use Rattle.std.proofs.Common.{◌≡◌, drop, length}
use Rattle.std.specs.Prelude.{nat_lt}
use Rattle.std.specs.List.{list_any}
use Rattle.mt_types.specs.declared.limits.TheConstants.{MAX_COLUMN_BYTES}
use Rattle.mt_asked.specs.Borrowed.{sets_of}
use Rattle.mt_asked.proofs.limits.has_long_column.Given as goal

abbrev pub invariant-loop-set : goal.invariant-loop-set
invariant-loop-set l =
    list_any (λ set. nat_lt MAX_COLUMN_BYTES (length set.1)) (sets_of (drop l.set-index l.sets))
    ≡ list_any (λ set. nat_lt MAX_COLUMN_BYTES (length set.1)) (sets_of l.sets)
