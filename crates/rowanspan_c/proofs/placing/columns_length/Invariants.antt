use Rattle.std.proofs.Common.{◌≡◌, length, take}
use Rattle.std.specs.List.{flat_map}
use Rattle.mt_types.specs.Rows.{chosen}
use Rattle.rowanspan_c.specs.Spelling.{bytes_spelling}
use Rattle.rowanspan_c.proofs.placing.columns_length.Given as goal

-- the bytes of the columns so far are counted
abbrev pub invariant-loop-place : goal.invariant-loop-place
invariant-loop-place l = l.length ≡ length (flat_map bytes_spelling (take l.place (chosen l.fn.asked l.fn.columns)))
