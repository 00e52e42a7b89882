use Rattle.mt_write.proofs.StageSteps.{turned}
use Rattle.mt_write.proofs.LaterSteps.{readies_half}
use Rattle.mt_write.proofs.writing.Write.reserve_in_half.Goals as goal

pub returns : goal.returns
returns c = turned c.args.columns c.args.tree.now c.reserve_half-stage.new.tree c.args.log.now c.reserve_half-stage.new.log c.args.self.now _ _ _ _ c.turn_to.ensures
    (readies_half c.args.columns c.args.tree.now c.reserve_half-stage.new.tree c.args.log.now c.reserve_half-stage.new.log c.args.self.now c.args.split c.args.place c.reserve_half-stage.result c.reserve_half-stage.ensures.ready c.reserve_half-stage.ensures.fault)
