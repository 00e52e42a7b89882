use Rattle.mt_write.proofs.StageSteps.{turned_tree, may_post}
use Rattle.mt_write.proofs.LaterSteps.{posting_moves, posting_waits, posting_ends}
use Rattle.mt_write.proofs.writing.Write.post.Goals as goal

pub step-requires : goal.step-requires
step-requires c = may_post c.args.tree.now c.args.self.now c.args.posting c.args.ending c.requires

pub returns-in-Moved : goal.returns-in-Moved
returns-in-Moved c = turned_tree c.args.tree.now c.step.new.tree c.args.self.now _ _ _ _ c.turn_to.ensures
    (posting_moves c.args.tree.now c.step.new.tree c.args.self.now c.args.posting c.step.new.self c.step.result c.step.ensures.steps (record { same = c.step.ensures.same; ends = c.step.ensures.ends; gets_on = c.step.ensures.gets_on; nearer = c.step.ensures.nearer; alone = c.step.ensures.alone; marks = c.step.ensures.marks }) c.args.ending c.in-Moved.is)

pub returns-in-Waits : goal.returns-in-Waits
returns-in-Waits c = turned_tree c.args.tree.now c.step.new.tree c.args.self.now _ _ _ _ c.turn_to-in-Waits.ensures
    (posting_waits c.args.tree.now c.step.new.tree c.args.self.now c.args.posting c.step.new.self c.step.result c.step.ensures.steps (record { same = c.step.ensures.same; ends = c.step.ensures.ends; gets_on = c.step.ensures.gets_on; nearer = c.step.ensures.nearer; alone = c.step.ensures.alone; marks = c.step.ensures.marks }) c.args.ending c.in-Waits.is c.step.ensures.waits)

pub returns-in-Ended : goal.returns-in-Ended
returns-in-Ended c = turned_tree c.args.tree.now c.step.new.tree c.args.self.now _ _ _ _ c.turn_to-in-Ended.ensures
    (posting_ends c.args.tree.now c.step.new.tree c.args.self.now c.args.posting c.step.new.self c.step.result c.step.ensures.steps (record { same = c.step.ensures.same; ends = c.step.ensures.ends; gets_on = c.step.ensures.gets_on; nearer = c.step.ensures.nearer; alone = c.step.ensures.alone; marks = c.step.ensures.marks }) c.in-Ended.field-0 c.args.ending c.ended.result c.in-Ended.is c.ended.ensures)
