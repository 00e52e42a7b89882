use Rattle.mt_border.proofs.TableLemmas.{room_left}
use Rattle.mt_border.proofs.slot_table.SlotTable.is_next.Goals as goal

pub first_unused-requires : goal.first_unused-requires
first_unused-requires c = room_left c.self.inside.slots.items c.self.inside.permutation c.self.invariant.arranged (rw (← c.self.view_is) at c.requires)
