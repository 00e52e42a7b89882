use Rattle.mt_write.proofs.EnterSteps.{goes_right}
use Rattle.mt_write.proofs.PostLemmas.{is_locked_border, is_written_border}
use Rattle.mt_write.proofs.StageSteps.{turned_tree}
use Rattle.mt_write.proofs.writing.Write.go_right.Goals as goal

pub unlock_border-requires-clause-locked : goal.unlock_border-requires-clause-locked
unlock_border-requires-clause-locked c = let (C, log, may) = c.requires in is_locked_border c.args.tree.now may.w c.args.self.now.way.node.0 may.true.0.0

pub unlock_border-requires-clause-written : goal.unlock_border-requires-clause-written
unlock_border-requires-clause-written c = let (C, log, may) = c.requires in is_written_border c.args.tree.now may.w c.args.self.now.way.node.0 may.true.0.0

pub returns : goal.returns
returns c = turned_tree c.args.tree.now c.unlock_border.new.self c.args.self.now _ _ _ _ c.turn_to.ensures
    (goes_right c.args.tree.now c.args.self.now c.unlock_border.new.self c.args.next c.unlock_border.ensures.value c.unlock_border.ensures.keeps)
