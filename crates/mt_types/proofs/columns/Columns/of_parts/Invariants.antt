use Rattle.std.proofs.Common.{◌≡◌, ◌++◌, drop}
use Rattle.mt_types.specs.Packed.{pieces, packed}
use Rattle.mt_types.proofs.columns.Columns.of_parts.Given as goal

abbrev pub invariant-loop-part-2 : goal.invariant-loop-part-2
invariant-loop-part-2 l = l.made ++ pieces (drop l.part-index l.parts) ≡ packed l.parts
