use Rattle.std.proofs.Common.{◌≡◌, replicate}
use Rattle.mt_border.specs.Table.{blank_slot}
use Rattle.mt_border.proofs.slot_table.blank_slots.Given as goal

abbrev pub invariant-loop : goal.invariant-loop
invariant-loop l = l.slots.items ≡ replicate l.counter blank_slot
