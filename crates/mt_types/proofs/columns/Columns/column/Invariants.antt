use Rattle.std.proofs.Common.{◌≡◌, drop}
use Rattle.mt_types.specs.Packed.{pieces}
use Rattle.mt_types.proofs.columns.Columns.column.Given as goal

abbrev pub invariant-loop : goal.invariant-loop
invariant-loop l = l.rest ≡ pieces (drop l.counter l.self)
