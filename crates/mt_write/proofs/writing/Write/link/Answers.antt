use Rattle.mt_write.proofs.StageSteps.{turned_tree, may_link_half}
use Rattle.mt_write.proofs.LaterSteps.{links_half}
use Rattle.mt_write.proofs.writing.Write.link.Goals as goal

pub link_half-requires : goal.link_half-requires
link_half-requires c = may_link_half c.args.tree.now c.args.self.now c.args.half c.args.cut c.args.place c.requires

pub returns-clause-step : goal.returns-clause-step
returns-clause-step c = turned_tree c.args.tree.now c.link_half.new.self c.args.self.now _ _ _ _ c.turn_to.ensures
    (links_half c.args.tree.now c.link_half.new.self c.args.self.now c.args.half c.args.cut c.args.place c.link_half.ensures.value c.link_half.ensures.links)
