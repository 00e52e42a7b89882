use Rattle.std.proofs.Common.{◌≡◌, ◌++◌, take, string_bytes}
use Rattle.std.specs.List.{flat_map}
use Rattle.mt_script.specs.Showing.{row_text}
use Rattle.mt_script.proofs.showing.push_rows.Given as goal

abbrev pub invariant-loop-pair : goal.invariant-loop-pair
invariant-loop-pair l = string_bytes l.out ≡ string_bytes l.initial.out ++ flat_map row_text (take l.pair-index l.pairs)
