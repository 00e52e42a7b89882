use Rattle.std.proofs.Common.{ap, Some}
use Rattle.rowanspan_c.proofs.reading.rows.Goals as goal

pub returns : goal.returns
returns c =
    let written = c.in_ok-bytes.ensures in (
      written.0,
      written.1,
      ap Some written.2,
      cc (c.columns.ensures, c.range_fault.ensures, c.in_default.is),
    )
