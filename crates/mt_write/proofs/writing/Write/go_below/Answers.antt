use Rattle.mt_write.proofs.PostLemmas.{is_locked_border, is_written_border}
use Rattle.mt_write.proofs.StageSteps.{turned_tree, border_owned}
use Rattle.mt_write.proofs.LaterSteps.{enters_layer}
use Rattle.mt_write.proofs.writing.Write.go_below.Goals as goal

pub unlock_border-requires-clause-locked : goal.unlock_border-requires-clause-locked
unlock_border-requires-clause-locked c = let own = border_owned c.args.tree.now c.args.self.now c.args.head c.requires in is_locked_border c.args.tree.now own.0 c.args.self.now.way.node.0 own.1

pub unlock_border-requires-clause-written : goal.unlock_border-requires-clause-written
unlock_border-requires-clause-written c = let own = border_owned c.args.tree.now c.args.self.now c.args.head c.requires in is_written_border c.args.tree.now own.0 c.args.self.now.way.node.0 own.1

pub returns : goal.returns
returns c = turned_tree c.args.tree.now c.unlock_border.new.self c.args.self.now _ _ _ _ c.turn_to.ensures
    (enters_layer c.args.tree.now c.unlock_border.new.self c.args.self.now c.unlock_border.ensures.keeps c.args.head c.unlock_border.ensures.value)
