use Rattle.std.proofs.Common.{◌<◌, length, rules}
use Rattle.mt_border.proofs.TableLemmas.{room_left, first_read}
use Rattle.mt_border.proofs.slot_table.SlotTable.first_unused.Goals as goal

pub first_unused-requires : goal.first_unused-requires
first_unused-requires c = room_left c.self.inside.slots.items c.self.inside.permutation c.self.invariant.arranged (rw (← c.self.view_is) at c.requires)

pub returns : goal.returns
returns c =
    let room = room_left c.self.inside.slots.items c.self.inside.permutation c.self.invariant.arranged (rw (← c.self.view_is) at c.requires) in
    let within : c.first_unused.result < length c.self.inside.slots.items = search rules in
    let read = rw c.as_slice.ensures.value at c.index-as_slice-first_unused.is in
    rw (← c.self.view_is) (first_read c.self.inside.slots.items c.self.inside.permutation.unused _ _ room c.first_unused.ensures.value within read)
