-- What it keeps of the tree, by the law of its step.
use Rattle.mt_tree.proofs.BorderMarks.{inserting_is_marked, marked_keeps}
use Rattle.mt_tree.proofs.tree.Tree.mark_inserting.Goals as goal

pub returns-clause-keeps : goal.returns-clause-keeps
returns-clause-keeps c =
    let same = inserting_is_marked c.mark_inserting.result c.border_mut.result.now c.mark_inserting.new.self c.mark_inserting.ensures.marked c.mark_inserting.ensures.unchanged in
    rw (← c.self.view_is) (marked_keeps c.self.inside.arena c.args.number.0 c.border_mut.result.now c.mark_inserting.new.self c.border_mut.ensures.value same c.mark_inserting.ensures.sound)
