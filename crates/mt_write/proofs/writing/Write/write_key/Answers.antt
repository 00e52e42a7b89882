use Rattle.mt_write.proofs.StageSteps.{turned_tree, may_write_key}
use Rattle.mt_write.proofs.LaterSteps.{writes_key}
use Rattle.mt_write.proofs.writing.Write.write_key.Goals as goal

pub write_key-requires : goal.write_key-requires
write_key-requires c = may_write_key c.args.tree.now c.args.self.now c.args.new c.args.slot_key c.args.row c.requires

pub returns : goal.returns
returns c = turned_tree c.args.tree.now c.write_key.new.self c.args.self.now _ _ _ _ c.turn_to.ensures
    (writes_key c.args.tree.now c.write_key.new.self c.args.self.now c.args.new c.args.slot_key c.args.row c.write_key.ensures.value c.write_key.ensures.keeps c.write_key.ensures.sound)
