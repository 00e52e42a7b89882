use Rattle.std.proofs.Common.{◌≡◌, subst}
use Rattle.mt_write.specs.declared.writing.Write.{Write}
use Rattle.mt_write.specs.declared.writing.Stage.TheVariants.{Enters}
use Rattle.mt_steps.specs.declared.entering.Entering.TheVariants.{Locked}
use Rattle.mt_write.proofs.EnterSteps.{locks_border}
use Rattle.mt_write.proofs.StageSteps.{turned_tree}
use Rattle.mt_write.proofs.writing.Write.seek.Goals as goal

pub returns : goal.returns
returns c =
    let (lockable, same) = c.visit.ensures.at c.in_default.is in
    turned_tree c.args.tree.now c.lock_border.new.self c.args.self.now _ _ _ _
    (subst (λ (w : Write). c.turn_to.new.self ≡ record w { stage = Enters Locked }) same c.turn_to.ensures)
    (locks_border c.args.tree.now c.args.self.now c.lock_border.new.self lockable
    (subst (λ (w : Write). c.lock_border.new.self ≡ Rattle.mt_arena.specs.Arena.with_border_changed c.args.tree.now w.way.node.0 Rattle.mt_border.specs.Border.with_locked) same c.lock_border.ensures.value)
    c.lock_border.ensures.keeps)
