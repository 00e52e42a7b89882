use Rattle.std.proofs.Common.{◌≡◌, ◌++◌, take, map, decimal, string_bytes}
use Rattle.std.specs.List.{join_with_byte}
use Rattle.mt_script.proofs.asking.push_columns.Given as goal

abbrev pub invariant-loop-i : goal.invariant-loop-i
invariant-loop-i l = string_bytes l.out ≡ string_bytes l.initial.out ++ join_with_byte 44 (map decimal (take l.i l.columns))
