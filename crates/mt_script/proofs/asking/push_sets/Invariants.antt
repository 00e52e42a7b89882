use Rattle.std.proofs.Common.{◌≡◌, ◌++◌, take, map, string_bytes}
use Rattle.std.specs.List.{join_with_byte}
use Rattle.mt_script.specs.Showing.{set_text}
use Rattle.mt_script.proofs.asking.push_sets.Given as goal

abbrev pub invariant-loop-i : goal.invariant-loop-i
invariant-loop-i l = string_bytes l.out ≡ string_bytes l.initial.out ++ join_with_byte 44 (map set_text (take l.i l.sets))
