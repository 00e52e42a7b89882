use Rattle.std.specs.FinMap.{entries}
use Rattle.std.specs.List.{flat_map}
use Rattle.mt_types.specs.Views.{column_sums}
use Rattle.rowanspan_c.specs.Spelling.{sum_spelling}
use Rattle.rowanspan_c.specs.Placed.{Writes}
use Rattle.rowanspan_c.proofs.totals.sums.Given as goal

-- the sums of the columns so far are written
abbrev pub invariant-loop-column : goal.invariant-loop-column
invariant-loop-column l =
    Writes (flat_map sum_spelling (column_sums 0 l.column (entries l.fn.state.rows))) l.fn.from l.fn.into l.into l.at
