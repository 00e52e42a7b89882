use Rattle.std.proofs.Common.{◌≡◌, ◌++◌, [], map, drop, slice_index_or}
use Rattle.mt_types.specs.Packed.{pieces, packed}
use Rattle.mt_types.proofs.columns.Columns.chosen.Given as goal

abbrev pub invariant-loop-number : goal.invariant-loop-number
invariant-loop-number l =
    l.made ++ pieces (map (λ k. slice_index_or l.self k []) (drop l.number-index l.asked)) ≡ packed (map (λ k. slice_index_or l.self k []) l.asked)
