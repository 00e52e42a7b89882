use Rattle.mt_write.proofs.StageSteps.{turned_tree, may_fill_half}
use Rattle.mt_write.proofs.LaterSteps.{fills_spared}
use Rattle.mt_write.proofs.writing.Write.fill_spared.Goals as goal

pub fill_border-requires : goal.fill_border-requires
fill_border-requires c = may_fill_half c.args.tree.now c.args.self.now c.args.half c.args.cut c.args.place c.args.right c.args.entries c.requires

pub returns-clause-step : goal.returns-clause-step
returns-clause-step c = turned_tree c.args.tree.now c.fill_border.new.self c.args.self.now _ _ _ _ c.turn_to.ensures
    (fills_spared c.args.tree.now c.fill_border.new.self c.args.self.now c.args.half c.args.cut c.args.place c.args.right c.args.entries c.fill_border.ensures.value c.fill_border.ensures.keeps)
