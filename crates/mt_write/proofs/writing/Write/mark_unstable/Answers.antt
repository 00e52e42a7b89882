use Rattle.mt_write.proofs.StageSteps.{turned_tree, may_mark_unstable}
use Rattle.mt_write.proofs.LaterSteps.{marks_key}
use Rattle.mt_write.proofs.writing.Write.mark_unstable.Goals as goal

pub mark_unstable-requires : goal.mark_unstable-requires
mark_unstable-requires c = may_mark_unstable c.args.tree.now c.args.self.now c.args.layer c.requires

pub returns : goal.returns
returns c = turned_tree c.args.tree.now c.mark_unstable.new.self c.args.self.now _ _ _ _ c.turn_to.ensures
    (marks_key c.args.tree.now c.mark_unstable.new.self c.args.self.now c.args.layer c.mark_unstable.ensures.value c.mark_unstable.ensures.keeps c.mark_unstable.ensures.sound)
