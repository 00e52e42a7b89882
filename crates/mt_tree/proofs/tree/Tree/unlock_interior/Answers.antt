use Rattle.mt_tree.proofs.InteriorChanges.{unlock_keeps}
use Rattle.mt_tree.proofs.tree.Tree.unlock_interior.Goals as goal

pub returns-clause-keeps : goal.returns-clause-keeps
returns-clause-keeps c =
    let is = rw c.self.view_is at c.interior_mut.ensures.value in
    rw (c.self.view_is, is, c.unlock.ensures.value) (unlock_keeps c.args.self.now c.args.number.0 c.interior_mut.result.now is)
