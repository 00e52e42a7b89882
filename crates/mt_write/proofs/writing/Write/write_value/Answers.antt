use Rattle.mt_write.proofs.StageSteps.{turned_tree, may_write_value}
use Rattle.mt_write.proofs.LaterSteps.{writes_value}
use Rattle.mt_write.proofs.writing.Write.write_value.Goals as goal

pub write_value-requires : goal.write_value-requires
write_value-requires c = may_write_value c.args.tree.now c.args.self.now c.args.new c.args.row c.requires

pub returns : goal.returns
returns c = turned_tree c.args.tree.now c.write_value.new.self c.args.self.now _ _ _ _ c.turn_to.ensures
    (writes_value c.args.tree.now c.write_value.new.self c.args.self.now c.args.new c.args.row c.write_value.ensures.value c.write_value.ensures.keeps c.write_value.ensures.sound)
