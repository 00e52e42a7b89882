use Rattle.mt_write.proofs.StageSteps.{turned_tree, head_locked}
use Rattle.mt_write.proofs.LaterSteps.{unlocks_layer}
use Rattle.mt_write.proofs.writing.Write.unlock_head.Goals as goal

pub unlock_head-requires : goal.unlock_head-requires
unlock_head-requires c = head_locked c.args.tree.now c.args.self.now c.args.layer c.requires

pub returns : goal.returns
returns c = turned_tree c.args.tree.now c.unlock_head.new.self c.args.self.now _ _ _ _ c.turn_to.ensures
    (unlocks_layer c.args.tree.now c.unlock_head.new.self c.args.self.now c.args.layer c.unlock_head.ensures.value c.unlock_head.ensures.keeps)
