use Rattle.std.proofs.Common.{length, arith}
use Rattle.std.specs.FinMap.{entries}
use Rattle.rowanspan_c.proofs.TotalsRead.{totals_length}
use Rattle.rowanspan_c.proofs.totals.totals_length.Goals as goal

pub returns : goal.returns
returns c state columns =
    let all = totals_length state.at (length (entries state.rows)) state.columns (entries state.rows) in
    omega (arith, all, columns)
