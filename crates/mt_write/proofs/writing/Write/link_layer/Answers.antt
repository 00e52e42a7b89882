use Rattle.mt_write.proofs.StageSteps.{turned_tree, may_link_layer}
use Rattle.mt_write.proofs.LaterSteps.{links_below}
use Rattle.mt_write.proofs.writing.Write.link_layer.Goals as goal

pub make_link-requires : goal.make_link-requires
make_link-requires c = may_link_layer c.args.tree.now c.args.self.now c.args.layer c.requires

pub returns : goal.returns
returns c = turned_tree c.args.tree.now c.make_link.new.self c.args.self.now _ _ _ _ c.turn_to.ensures
    (links_below c.args.tree.now c.make_link.new.self c.args.self.now c.args.layer c.make_link.ensures.value c.make_link.ensures.makes)
