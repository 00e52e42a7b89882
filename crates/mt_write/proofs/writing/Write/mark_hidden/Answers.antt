-- The border is marked, or can't be.
use Rattle.std.proofs.Common.{refl}
use Rattle.mt_write.proofs.LaterSteps.{leaves_hidden, marks_hidden}
use Rattle.mt_write.proofs.StageSteps.{turned_tree}
use Rattle.mt_write.proofs.writing.Write.mark_hidden.Goals as goal

pub returns-in-Ok : goal.returns-in-Ok
returns-in-Ok c = turned_tree c.args.tree.now c.mark_inserting.new.self c.args.self.now _ _ _ _ c.turn_to.ensures
    (marks_hidden c.args.tree.now c.mark_inserting.new.self c.args.self.now c.args.commit c.in-Ok.ensures.marked c.mark_inserting.ensures.keeps c.mark_inserting.ensures.sound)

pub returns-in-Err : goal.returns-in-Err
returns-in-Err c = turned_tree c.args.tree.now c.mark_inserting.new.self c.args.self.now _ _ _ _ c.turn_to-in-Err.ensures
    (leaves_hidden c.args.tree.now c.mark_inserting.new.self c.args.self.now c.args.commit c.in-Err.ensures.unchanged (c.in-Err.ensures.spent.0 refl))
