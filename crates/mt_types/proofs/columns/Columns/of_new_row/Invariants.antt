use Rattle.std.proofs.Common.{◌≡◌, ◌++◌, [], drop, replicate}
use Rattle.mt_types.specs.Rows.{new_columns}
use Rattle.mt_types.specs.Packed.{pieces, packed}
use Rattle.mt_types.proofs.columns.Columns.of_new_row.Given as goal

abbrev pub invariant-loop-number-2 : goal.invariant-loop-number-2
invariant-loop-number-2 l =
    l.made ++ pieces (new_columns l.sets l.number (drop l.number (replicate l.count []))) ≡ packed (new_columns l.sets 0 (replicate l.count []))
