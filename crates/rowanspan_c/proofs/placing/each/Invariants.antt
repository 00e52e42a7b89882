use Rattle.std.proofs.Common.{take}
use Rattle.std.specs.List.{flat_map}
use Rattle.mt_types.specs.Rows.{chosen}
use Rattle.rowanspan_c.specs.Spelling.{bytes_spelling}
use Rattle.rowanspan_c.specs.Placed.{Writes}
use Rattle.rowanspan_c.proofs.placing.each.Given as goal

-- the columns so far are written
abbrev pub invariant-loop-place : goal.invariant-loop-place
invariant-loop-place l =
    Writes (flat_map bytes_spelling (take l.place (chosen l.fn.asked l.fn.columns))) l.fn.from l.fn.into l.into l.at
