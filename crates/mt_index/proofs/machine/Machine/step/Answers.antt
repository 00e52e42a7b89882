use Rattle.std.proofs.Common.{◌∙◌, ℕ, List, ap, sym, subst}
use Rattle.mt_commit.specs.Log.{trimmed}
use Rattle.mt_index.specs.Stands.{MachineView, HasBounds}
use Rattle.mt_index.proofs.EventStands.{may_step, may_settle, may_vacate, step_bounds, settled_bounds, taken-steps, taken-stands}
use Rattle.mt_index.proofs.LaterStands.{seen}
use Rattle.mt_index.proofs.machine.Machine.step.Goals as goal

pub step-requires : goal.step-requires
step-requires c =
    let (h, st) = c.self.invariant in
    λ unbuilt. may_step (seen c.self.inside.columns c.self.inside.epoch c.self.inside.tree c.self.inside.log c.self.inside.calls c.self.inside.views) h c.args.number st unbuilt

pub settle-outcome-requires-clause-holds : goal.settle-outcome-requires-clause-holds
settle-outcome-requires-clause-holds c = let (h, st) = c.self.invariant in may_settle (seen c.self.inside.columns c.self.inside.epoch c.self.inside.tree c.self.inside.log c.self.inside.calls c.self.inside.views) h c.args.number c.step.new.self c.step.new.tree c.step.new.log c.in-Stepped.stepped.pass c.in-Stepped.stepped.reads c.in-Stepped.stepped.builds c.in-Stepped.stepped.from c.in-Stepped.stepped.progress c.in-Stepped.ensures.1 st

pub settle-outcome-requires-clause-place : goal.settle-outcome-requires-clause-place
settle-outcome-requires-clause-place c = let (h, st) = c.self.invariant in may_vacate (seen c.self.inside.columns c.self.inside.epoch c.self.inside.tree c.self.inside.log c.self.inside.calls c.self.inside.views) h c.args.number c.step.new.self c.step.new.tree c.step.new.log c.in-Stepped.stepped.pass c.in-Stepped.stepped.reads c.in-Stepped.stepped.builds c.in-Stepped.stepped.from c.in-Stepped.stepped.progress c.in-Stepped.ensures.1 st

pub invariant_of-self-2 : goal.invariant_of-self-2
invariant_of-self-2 c = taken-stands c.self.inside.columns c.self.inside.epoch c.self.inside.tree c.step.new.tree c.self.inside.log c.step.new.log c.self.inside.calls c.step.new.self c.settle-outcome.new.calls c.self.inside.views c.settle-outcome.new.views c.args.number c.in-Stepped.stepped.pass c.in-Stepped.stepped.reads c.in-Stepped.stepped.builds c.in-Stepped.stepped.from c.in-Stepped.stepped.progress
    c.in-Stepped.ensures.0 c.in-Stepped.ensures.1 c.settle-outcome.ensures.calls c.settle-outcome.new.log c.settle-outcome.ensures.log c.settle-outcome.ensures.views c.number-sound.ensures.sound
    c.trim.new.self c.trim.ensures.after c.self.invariant

pub returns-clause-steps : goal.returns-clause-steps
returns-clause-steps c = taken-steps c.self.inside.columns c.self.inside.epoch c.self.inside.tree c.step.new.tree c.self.inside.log c.step.new.log c.self.inside.calls c.step.new.self c.settle-outcome.new.calls c.self.inside.views c.settle-outcome.new.views c.args.number c.in-Stepped.stepped.pass c.in-Stepped.stepped.reads c.in-Stepped.stepped.builds c.in-Stepped.stepped.from c.in-Stepped.stepped.progress
    c.in-Stepped.ensures.0 c.in-Stepped.ensures.1 c.settle-outcome.ensures.calls c.settle-outcome.new.log c.settle-outcome.ensures.log c.settle-outcome.ensures.views c.number-sound.ensures.sound
    c.args.self.now c.settle-outcome.result c.trim.new.self c.trim.ensures.after c.self.view_is c.settle-outcome.ensures.outcome

pub returns-clause-bounds : goal.returns-clause-bounds
returns-clause-bounds c =
    let (h, st) = c.self.invariant in
    let same = step_bounds (seen c.self.inside.columns c.self.inside.epoch c.self.inside.tree c.self.inside.log c.self.inside.calls c.self.inside.views) h c.args.number c.step.new.self c.step.new.tree c.step.new.log c.in-Stepped.stepped.pass c.in-Stepped.stepped.reads c.in-Stepped.stepped.builds c.in-Stepped.stepped.from c.in-Stepped.stepped.progress c.in-Stepped.ensures.1 st in
    subst (λ (s : MachineView). HasBounds s.log.capacity s.log.retention c.trim.new.self) c.self.view_is
    (subst (HasBounds c.self.inside.log.capacity c.self.inside.log.retention) (sym (c.trim.ensures.after ∙ ap trimmed c.settle-outcome.ensures.log))
    (settled_bounds c.in-Stepped.stepped.reads c.in-Stepped.stepped.from c.in-Stepped.stepped.progress c.step.new.log _ _ (ap (λ (b : List ℕ × ℕ × ℕ × ℕ). b.1) same, ap (λ (b : List ℕ × ℕ × ℕ × ℕ). b.2) same)))
