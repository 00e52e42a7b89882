use Rattle.std.proofs.Common.{◌≡◌, drop, length}
use Rattle.std.specs.Prelude.{nat_lt}
use Rattle.std.specs.List.{list_any}
use Rattle.mt_types.proofs.piece.has_long_part.Given as goal

abbrev pub invariant-loop-column : goal.invariant-loop-column
invariant-loop-column l =
    list_any (λ column. nat_lt 255 (length column)) (drop l.column-index l.columns)
    ≡ list_any (λ column. nat_lt 255 (length column)) l.columns
