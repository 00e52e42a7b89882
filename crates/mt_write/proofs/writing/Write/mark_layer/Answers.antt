use Rattle.mt_write.proofs.StageSteps.{turned_tree, may_mark_layer}
use Rattle.mt_write.proofs.LaterSteps.{marks_done}
use Rattle.mt_write.proofs.writing.Write.mark_layer.Goals as goal

pub mark_layer-requires : goal.mark_layer-requires
mark_layer-requires c = may_mark_layer c.args.tree.now c.args.self.now c.args.head c.requires

pub returns : goal.returns
returns c = turned_tree c.args.tree.now c.mark_layer.new.self c.args.self.now _ _ _ _ c.turn_to.ensures
    (marks_done c.args.tree.now c.mark_layer.new.self c.args.self.now c.args.head c.mark_layer.ensures.value c.mark_layer.ensures.keeps)
