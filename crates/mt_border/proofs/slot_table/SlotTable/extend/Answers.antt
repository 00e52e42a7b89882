use Rattle.mt_border.proofs.SeenLemmas.{extended, room_for}
use Rattle.mt_border.proofs.slot_table.SlotTable.extend.Goals as goal

pub fill-requires : goal.fill-requires
fill-requires c = room_for c.args.entries.items c.loop-entry.yielded c.loop-entry.entry-iterator.rest.items _ c.args.self.now c.loop-entry.self c.in-Some.entry c.loop-entry.invariant c.in-Some.ensures.steps.0 c.requires

pub loop-entry-preserved : goal.loop-entry-preserved
loop-entry-preserved c =
    let room = room_for c.args.entries.items c.loop-entry.yielded c.loop-entry.entry-iterator.rest.items _ c.args.self.now c.loop-entry.self c.in-Some.entry c.loop-entry.invariant c.in-Some.ensures.steps.0 c.requires in
    rw (c.insert_at.ensures, c.mark.ensures, c.fill.ensures) (extended c.args.entries.items c.loop-entry.yielded c.loop-entry.entry-iterator.rest.items _ c.args.self.now c.loop-entry.self c.in-Some.entry c.len-place.result c.loop-entry.invariant c.in-Some.ensures.steps.0 room c.len-place.ensures.sound c.len-place.ensures.value)
