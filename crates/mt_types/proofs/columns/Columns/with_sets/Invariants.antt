use Rattle.std.proofs.Common.{◌≡◌, ◌++◌, drop}
use Rattle.mt_types.specs.Rows.{new_columns}
use Rattle.mt_types.specs.Packed.{pieces, packed}
use Rattle.mt_types.proofs.columns.Columns.with_sets.Given as goal

abbrev pub invariant-loop-number : goal.invariant-loop-number
invariant-loop-number l =
    (l.rest ≡ pieces (drop l.number l.self))
    × (l.made ++ pieces (new_columns l.sets l.number (drop l.number l.self)) ≡ packed (new_columns l.sets 0 l.self))
