use Rattle.mt_write.proofs.StageSteps.{turned_tree, may_cut}
use Rattle.mt_write.proofs.LaterSteps.{cuts_order}
use Rattle.mt_write.proofs.writing.Write.cut.Goals as goal

pub half_of-place-requires-clause-half : goal.half_of-place-requires-clause-half
half_of-place-requires-clause-half c = (may_cut c.args.tree.now c.args.self.now c.args.half c.args.cut c.args.place c.requires).1

pub cut-requires : goal.cut-requires
cut-requires c = (may_cut c.args.tree.now c.args.self.now c.args.half c.args.cut c.args.place c.requires).0

pub returns-clause-step : goal.returns-clause-step
returns-clause-step c = turned_tree c.args.tree.now c.cut.new.self c.args.self.now _ _ _ _ c.turn_to.ensures
    (cuts_order c.args.tree.now c.cut.new.self c.args.self.now c.args.half c.args.cut c.args.place c.half_of-place.result.0 c.half_of-place.result.1 c.cut.ensures.value c.cut.ensures.keeps c.half_of-place.ensures)
