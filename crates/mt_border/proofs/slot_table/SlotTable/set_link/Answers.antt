use Rattle.std.proofs.Common.{ℕ, ◌<◌, List, length, ◌∙◌, subst, IsSome, Option}
use Rattle.mt_border.proofs.TableLemmas.{live_place, suffix_read}
use Rattle.mt_border.proofs.slot_table.SlotTable.set_link.Goals as goal

pub put_link-requires-clause-long : goal.put_link-requires-clause-long
put_link-requires-clause-long c =
    let xs = c.self.inside.slots.items in
    let s = c.self.inside.permutation in
    let inside : c.args.place < length s.live = live_place xs s c.args.place (rw (← c.self.view_is) at c.requires.within) in
    let long = rw (← c.self.view_is) at c.requires.long in
    subst (λ (r : Option (List ℕ)). IsSome r) (suffix_read xs s c.args.place c.slot-slot.result inside c.slot-slot.ensures.value) long

pub returns-clause-replaced : goal.returns-clause-replaced
returns-clause-replaced c =
    let xs = c.self.inside.slots.items in
    let s = c.self.inside.permutation in
    let inside : c.args.place < length s.live = live_place xs s c.args.place (rw (← c.self.view_is) at c.requires.within) in
    rw (← c.self.view_is) (suffix_read xs s c.args.place c.slot-slot.result inside c.slot-slot.ensures.value ∙ c.put_link.ensures.replaced)
