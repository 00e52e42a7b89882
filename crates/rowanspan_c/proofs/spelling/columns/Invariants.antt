use Rattle.std.proofs.Common.{◌≡◌, ◌++◌, length, take}
use Rattle.std.specs.List.{flat_map}
use Rattle.mt_types.specs.Rows.{chosen}
use Rattle.rowanspan_c.specs.Spelling.{number_spelling, bytes_spelling}
use Rattle.rowanspan_c.proofs.spelling.columns.Given as goal

-- how many they are, and the columns so far are written
abbrev pub invariant-loop-place : goal.invariant-loop-place
invariant-loop-place l =
    l.out.items ≡ l.fn.out.items ++ number_spelling (length (chosen l.asked l.columns)) ++ flat_map bytes_spelling (take l.place (chosen l.asked l.columns))
