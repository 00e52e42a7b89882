use Rattle.std.proofs.Common.{◌≡◌, refl, sym, subst}
use Rattle.std.specs.Prelude.{Result, IfOk, IsErr}
use Rattle.mt_types.specs.declared.refusal.NoMemory.{NoMemory}
use Rattle.mt_steps.specs.Entering.{entered}
use Rattle.mt_steps.specs.declared.entering.Entered.{Entered}
use Rattle.mt_write.proofs.EnterSteps.{border_read, fails_reading, field_read, reads_to, rest_read}
use Rattle.mt_write.proofs.StageSteps.{turned_tree}
use Rattle.mt_write.proofs.writing.Write.enter.Goals as goal

pub border-border-requires : goal.border-border-requires
border-border-requires c = border_read c.args.tree.now c.args.self.now c.args.entering c.requires

pub rest_of-rest-requires : goal.rest_of-rest-requires
rest_of-rest-requires c = rest_read c.args.tree.now c.args.self.now c.args.entering c.requires

pub read-requires-clause-border : goal.read-requires-clause-border
read-requires-clause-border c = border_read c.args.tree.now c.args.self.now c.args.entering c.requires

pub read-requires-clause-entering : goal.read-requires-clause-entering
read-requires-clause-entering c = field_read c.args.tree.now c.args.self.now c.args.entering c.requires c.border-border.result.now c.border-border.ensures.value c.border-border.ensures.sound

pub returns-in-Ok : goal.returns-in-Ok
returns-in-Ok c = turned_tree c.args.tree.now c.args.tree.now c.args.self.now _ _ _ _ c.turn_to.ensures
    (reads_to c.args.tree.now c.args.self.now c.args.entering c.rest_of-rest.result.now c.rest_of-rest.ensures.value c.read.ensures.reads.part c.read.ensures.reads.lent c.in-Ok.entered
    (subst (λ (r : Result Entered NoMemory). IfOk r (λ next. next ≡ entered c.rest_of-rest.result.now c.args.entering c.read.ensures.reads.part)) c.in-Ok.is c.read.ensures.reads.does)
    c.stage_after.result c.stage_after.ensures)

pub returns-in-Err : goal.returns-in-Err
returns-in-Err c = turned_tree c.args.tree.now c.args.tree.now c.args.self.now _ _ _ _ c.turn_to-in-Err.ensures
    (fails_reading c.args.tree.now c.args.self.now c.args.entering (c.read.ensures.reads.takes (subst (λ (r : Result Entered NoMemory). IsErr r) (sym c.in-Err.is) refl)))
