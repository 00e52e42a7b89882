use Rattle.mt_write.proofs.ReadyLemmas.{may_write_marked}
use Rattle.mt_write.proofs.inserting.insert_unread.Goals as goal

pub write_slot-requires : goal.write_slot-requires
write_slot-requires c =
    may_write_marked c.args.tree.now c.mark.new.tree c.args.row.now.way.node.0 c.in-Ok.slot_key c.requires.room c.requires.locked c.requires.written c.mark.ensures.marked c.in-Ok.ensures.whole
