use Rattle.mt_write.proofs.StageSteps.{turned_tree, may_fill_root}
use Rattle.mt_write.proofs.LaterSteps.{fills_layer}
use Rattle.mt_write.proofs.writing.Write.fill_root.Goals as goal

pub fill_border-requires : goal.fill_border-requires
fill_border-requires c = may_fill_root c.args.tree.now c.args.self.now c.args.layer c.args.entries c.requires

pub returns : goal.returns
returns c = turned_tree c.args.tree.now c.fill_border.new.self c.args.self.now _ _ _ _ c.turn_to.ensures
    (fills_layer c.args.tree.now c.fill_border.new.self c.args.self.now c.args.layer c.args.entries c.fill_border.ensures.value c.fill_border.ensures.keeps)
