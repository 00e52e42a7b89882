use Rattle.std.proofs.Common.{◌≡◌, drop}
use Rattle.mt_types.specs.Packed.{pieces}
use Rattle.mt_types.proofs.columns.Columns.room_with.Given as goal

abbrev pub invariant-loop-number : goal.invariant-loop-number
invariant-loop-number l = l.rest ≡ pieces (drop l.number l.self)
