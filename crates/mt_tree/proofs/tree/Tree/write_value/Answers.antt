-- What it keeps of the tree, by the law of its step.
use Rattle.mt_tree.proofs.BorderMarks.{valued_is_marked, marked_keeps}
use Rattle.mt_tree.proofs.tree.Tree.write_value.Goals as goal

pub returns-clause-keeps : goal.returns-clause-keeps
returns-clause-keeps c =
    let awaits = rw (← c.self.view_is, c.border_mut.ensures.value) at c.requires in
    let same = valued_is_marked c.border_mut.result.now c.write_value.new.self c.args.row awaits c.write_value.ensures.value in
    rw (← c.self.view_is) (marked_keeps c.self.inside.arena c.args.number.0 c.border_mut.result.now c.write_value.new.self c.border_mut.ensures.value same c.write_value.ensures.sound)
