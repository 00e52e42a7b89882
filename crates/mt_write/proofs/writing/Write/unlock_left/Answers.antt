use Rattle.std.proofs.Common.{◌∙◌}
use Rattle.mt_write.proofs.PostLemmas.{is_locked_border, is_written_border}
use Rattle.mt_write.proofs.StageSteps.{turned_tree, left_owned}
use Rattle.mt_write.proofs.LaterSteps.{begins_posting}
use Rattle.mt_write.proofs.writing.Write.unlock_left.Goals as goal

pub unlock_border-requires-clause-locked : goal.unlock_border-requires-clause-locked
unlock_border-requires-clause-locked c = let own = left_owned c.args.tree.now c.args.self.now c.args.split c.args.ending c.requires in is_locked_border c.args.tree.now own.0 c.args.split.left.0 own.1

pub unlock_border-requires-clause-written : goal.unlock_border-requires-clause-written
unlock_border-requires-clause-written c = let own = left_owned c.args.tree.now c.args.self.now c.args.split c.args.ending c.requires in is_written_border c.args.tree.now own.0 c.args.split.left.0 own.1

pub returns : goal.returns
returns c = turned_tree c.args.tree.now c.unlock_border.new.self c.args.self.now _ _ _ _ c.turn_to.ensures
    (begins_posting c.args.tree.now c.unlock_border.new.self c.args.self.now c.unlock_border.ensures.keeps c.args.split c.new-begun.result (record { same_head = c.new-begun.ensures.head; same_half = c.new-begun.ensures.half; idle = c.new-begun.ensures.idle; walks = c.new-begun.ensures.walks }) c.new-begun.ensures.begins c.border.result.now c.border.ensures.value (c.new-begun.ensures.low ∙ c.low-low.ensures.value) c.unlock_border.ensures.value c.args.ending)
