use Rattle.std.proofs.Common.{◌≡◌, ◌++◌, take, string_bytes}
use Rattle.std.specs.List.{flat_map}
use Rattle.mt_script.specs.Lines.{line_text}
use Rattle.mt_script.specs.Showing.{delta_text}
use Rattle.mt_script.proofs.replies.push_deltas.Given as goal

abbrev pub invariant-loop-delta : goal.invariant-loop-delta
invariant-loop-delta l = string_bytes l.out ≡ string_bytes l.initial.out ++ flat_map (λ delta. line_text (delta_text delta)) (take l.delta-index l.deltas)
