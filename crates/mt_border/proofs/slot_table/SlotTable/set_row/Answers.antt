use Rattle.std.proofs.Common.{◌<◌, length, ◌∙◌, subst, IsSome, Option}
use Rattle.mt_types.specs.declared.row.Row.{Row}
use Rattle.mt_border.proofs.TableLemmas.{live_place, row_read}
use Rattle.mt_border.proofs.slot_table.SlotTable.set_row.Goals as goal

pub put_row-requires-clause-row : goal.put_row-requires-clause-row
put_row-requires-clause-row c =
    let xs = c.self.inside.slots.items in
    let s = c.self.inside.permutation in
    let inside : c.args.place < length s.live = live_place xs s c.args.place (rw (← c.self.view_is) at c.requires.within) in
    let row = rw (← c.self.view_is) at c.requires.row in
    subst (λ (r : Option Row). IsSome r) (row_read xs s c.args.place c.slot-slot.result inside c.slot-slot.ensures.value) row

pub returns-clause-replaced : goal.returns-clause-replaced
returns-clause-replaced c =
    let xs = c.self.inside.slots.items in
    let s = c.self.inside.permutation in
    let inside : c.args.place < length s.live = live_place xs s c.args.place (rw (← c.self.view_is) at c.requires.within) in
    rw (← c.self.view_is) (row_read xs s c.args.place c.slot-slot.result inside c.slot-slot.ensures.value ∙ c.put_row.ensures.replaced)
