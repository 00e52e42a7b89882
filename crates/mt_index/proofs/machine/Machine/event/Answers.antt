use Rattle.std.proofs.Common.{subst, sym, ◌∷◌}
use Rattle.mt_types.specs.declared.event.Event.{Event}
use Rattle.mt_types.specs.declared.event.Event.TheVariants.{Begin, Step, Apply, ViewRead, ViewDrop, Advance, Collect}
use Rattle.mt_promise.specs.History.{happening}
use Rattle.mt_index.specs.Stands.{Stands}
use Rattle.mt_index.specs.Causes.{IsCaused}
use Rattle.mt_index.specs.OneStep.{IsOneStep}
use Rattle.mt_index.specs.OneField.{IsOneField}
use Rattle.mt_index.specs.Events.{EventDoes}
use Rattle.mt_index.proofs.CauseLemmas.{steps-caused}
use Rattle.mt_index.proofs.OneStepLemmas.{steps-once}
use Rattle.mt_index.proofs.OneFieldLemmas.{steps-one_field}
use Rattle.mt_index.proofs.LimitedLemmas.{outcome-limited}
use Rattle.mt_index.proofs.EventLemmas.{begin-does, step-does, apply-does, read-does, drop-does, advance-does, collect-does}
use Rattle.mt_index.proofs.BeginStands.{begins-stands, begins-columns}
use Rattle.mt_index.proofs.ViewEvents.{steps-stand, steps-columns}
use Rattle.mt_index.proofs.ApplyStands.{applies-stand, reads-stand, drops-stand}
use Rattle.mt_index.proofs.EpochStands.{advances-stand, collects-stand}
use Rattle.mt_index.proofs.machine.Machine.event.Goals as goal

pub returns-in-Begin : goal.returns-in-Begin
returns-in-Begin c = record {
  stands = λ h st. (
    0,
    subst (λ (e : Event). Stands c.begin.new.self (happening e c.begin.result 0 ∷ h)) (sym c.in-Begin.is)
        (begins-stands c.args.self.now c.begin.new.self c.in-Begin.pass c.in-Begin.request c.begin.result h c.begin.ensures.begins st),
  );
  does = subst (λ (e : Event). EventDoes c.args.self.now e c.begin.result c.begin.new.self) (sym c.in-Begin.is)
      (begin-does c.args.self.now c.begin.new.self c.begin.result c.in-Begin.pass c.in-Begin.request c.begin.ensures.begins);
  caused = subst (λ (e : Event). IsCaused c.args.self.now e c.begin.result c.begin.new.self) (sym c.in-Begin.is) tt;
  one_step = subst (λ (e : Event). IsOneStep c.args.self.now e c.begin.result c.begin.new.self) (sym c.in-Begin.is) tt;
  one_field = subst (λ (e : Event). IsOneField c.args.self.now e c.begin.result c.begin.new.self) (sym c.in-Begin.is) tt;
  limited =
      let (h, st) = c.is_idle-stands.ensures.stands in
      outcome-limited c.begin.new.self h (Begin c.in-Begin.pass c.in-Begin.request) c.begin.result 0 (begins-stands c.args.self.now c.begin.new.self c.in-Begin.pass c.in-Begin.request c.begin.result h c.begin.ensures.begins st);
  columns = begins-columns c.args.self.now c.begin.new.self c.in-Begin.pass c.in-Begin.request c.begin.result c.begin.ensures.begins;
  bounds = c.begin.ensures.bounds;
}

pub returns-in-Step : goal.returns-in-Step
returns-in-Step c = record {
  stands = λ h st.
      let (opens, then) = steps-stand c.args.self.now c.step.new.self c.in-Step.call.0 c.step.result h c.step.ensures.steps st in
      (opens, subst (λ (e : Event). Stands c.step.new.self (happening e c.step.result opens ∷ h)) (sym c.in-Step.is) then);
  does = subst (λ (e : Event). EventDoes c.args.self.now e c.step.result c.step.new.self) (sym c.in-Step.is)
      (step-does c.args.self.now c.step.new.self c.step.result c.in-Step.call c.step.ensures.steps);
  caused = subst (λ (e : Event). IsCaused c.args.self.now e c.step.result c.step.new.self) (sym c.in-Step.is)
      (steps-caused c.args.self.now c.step.new.self c.in-Step.call c.step.result c.step.ensures.steps);
  one_step = subst (λ (e : Event). IsOneStep c.args.self.now e c.step.result c.step.new.self) (sym c.in-Step.is)
      (steps-once c.args.self.now c.step.new.self c.in-Step.call c.step.result c.step.ensures.steps);
  one_field = subst (λ (e : Event). IsOneField c.args.self.now e c.step.result c.step.new.self) (sym c.in-Step.is)
      (steps-one_field c.args.self.now c.step.new.self c.in-Step.call c.step.result c.step.ensures.steps);
  limited =
      let (h, st) = c.is_idle-stands.ensures.stands in
      let (opens, then) = steps-stand c.args.self.now c.step.new.self c.in-Step.call.0 c.step.result h c.step.ensures.steps st in
      outcome-limited c.step.new.self h (Step c.in-Step.call) c.step.result opens then;
  columns = steps-columns c.args.self.now c.step.new.self c.in-Step.call.0 c.step.result c.step.ensures.steps;
  bounds = c.step.ensures.bounds;
}

pub returns-in-Apply-clause-stands : goal.returns-in-Apply-clause-stands
returns-in-Apply-clause-stands c = λ h st. (
  0,
  subst (λ (e : Event). Stands c.apply.new.self (happening e c.apply.result 0 ∷ h)) (sym c.in-Apply.is)
      (applies-stand c.args.self.now h st c.apply.new.self c.in-Apply.view c.apply.result c.apply.ensures.applies),
)

pub returns-in-ViewRead-clause-stands : goal.returns-in-ViewRead-clause-stands
returns-in-ViewRead-clause-stands c = λ h st. (
  0,
  subst (λ (e : Event). Stands c.args.self.now (happening e c.view_read.result 0 ∷ h)) (sym c.in-ViewRead.is)
      (reads-stand c.args.self.now h st c.in-ViewRead.view c.in-ViewRead.floor c.in-ViewRead.start c.in-ViewRead.limit c.view_read.result c.view_read.ensures),
)

pub returns-in-ViewDrop-clause-stands : goal.returns-in-ViewDrop-clause-stands
returns-in-ViewDrop-clause-stands c = λ h st. (
  0,
  subst (λ (e : Event). Stands c.view_drop.new.self (happening e c.view_drop.result 0 ∷ h)) (sym c.in-ViewDrop.is)
      (drops-stand c.args.self.now h st c.view_drop.new.self c.in-ViewDrop.view c.view_drop.result c.view_drop.ensures.drops),
)

pub returns-in-Advance-clause-stands : goal.returns-in-Advance-clause-stands
returns-in-Advance-clause-stands c = λ h st. (
  0,
  subst (λ (e : Event). Stands c.advance.new.self (happening e c.advance.result 0 ∷ h)) (sym c.in-Advance.is)
      (advances-stand c.args.self.now c.advance.new.self h st c.advance.result c.advance.ensures.advances),
)

pub returns-in-Collect-clause-stands : goal.returns-in-Collect-clause-stands
returns-in-Collect-clause-stands c = λ h st. (
  0,
  subst (λ (e : Event). Stands c.collect.new.self (happening e c.collect.result 0 ∷ h)) (sym c.in-Collect.is)
      (collects-stand c.args.self.now c.collect.new.self h st c.collect.result c.collect.ensures.collects),
)

pub returns-in-Collect-clause-caused : goal.returns-in-Collect-clause-caused
returns-in-Collect-clause-caused c = subst (λ (e : Event). IsCaused c.args.self.now e c.collect.result c.collect.new.self) (sym c.in-Collect.is) c.collect.ensures.caused

pub returns-in-Apply-clause-does : goal.returns-in-Apply-clause-does
returns-in-Apply-clause-does c = subst (λ (e : Event). EventDoes c.args.self.now e c.apply.result c.apply.new.self) (sym c.in-Apply.is)
    (apply-does c.args.self.now c.apply.new.self c.apply.result c.in-Apply.view c.apply.ensures.applies)

pub returns-in-ViewRead-clause-does : goal.returns-in-ViewRead-clause-does
returns-in-ViewRead-clause-does c = subst (λ (e : Event). EventDoes c.args.self.now e c.view_read.result c.args.self.now) (sym c.in-ViewRead.is)
    (read-does c.args.self.now c.view_read.result c.in-ViewRead.view c.in-ViewRead.floor c.in-ViewRead.start c.in-ViewRead.limit c.view_read.ensures)

pub returns-in-ViewDrop-clause-does : goal.returns-in-ViewDrop-clause-does
returns-in-ViewDrop-clause-does c = subst (λ (e : Event). EventDoes c.args.self.now e c.view_drop.result c.view_drop.new.self) (sym c.in-ViewDrop.is)
    (drop-does c.args.self.now c.view_drop.new.self c.view_drop.result c.in-ViewDrop.view c.view_drop.ensures.drops)

pub returns-in-Advance-clause-does : goal.returns-in-Advance-clause-does
returns-in-Advance-clause-does c = subst (λ (e : Event). EventDoes c.args.self.now e c.advance.result c.advance.new.self) (sym c.in-Advance.is)
    (advance-does c.args.self.now c.advance.new.self c.advance.result c.advance.ensures.advances)

pub returns-in-Collect-clause-does : goal.returns-in-Collect-clause-does
returns-in-Collect-clause-does c = subst (λ (e : Event). EventDoes c.args.self.now e c.collect.result c.collect.new.self) (sym c.in-Collect.is)
    (collect-does c.args.self.now c.collect.new.self c.collect.result c.collect.ensures.collects)

pub returns-in-Apply-clause-limited : goal.returns-in-Apply-clause-limited
returns-in-Apply-clause-limited c =
    let (h, st) = c.is_idle-stands.ensures.stands in
    outcome-limited c.apply.new.self h (Apply c.in-Apply.view) c.apply.result 0 (applies-stand c.args.self.now h st c.apply.new.self c.in-Apply.view c.apply.result c.apply.ensures.applies)

pub returns-in-ViewRead-clause-limited : goal.returns-in-ViewRead-clause-limited
returns-in-ViewRead-clause-limited c =
    let (h, st) = c.is_idle-stands.ensures.stands in
    outcome-limited c.args.self.now h (ViewRead c.in-ViewRead.view c.in-ViewRead.floor c.in-ViewRead.start c.in-ViewRead.limit) c.view_read.result 0 (reads-stand c.args.self.now h st c.in-ViewRead.view c.in-ViewRead.floor c.in-ViewRead.start c.in-ViewRead.limit c.view_read.result c.view_read.ensures)

pub returns-in-ViewDrop-clause-limited : goal.returns-in-ViewDrop-clause-limited
returns-in-ViewDrop-clause-limited c =
    let (h, st) = c.is_idle-stands.ensures.stands in
    outcome-limited c.view_drop.new.self h (ViewDrop c.in-ViewDrop.view) c.view_drop.result 0 (drops-stand c.args.self.now h st c.view_drop.new.self c.in-ViewDrop.view c.view_drop.result c.view_drop.ensures.drops)

pub returns-in-Advance-clause-limited : goal.returns-in-Advance-clause-limited
returns-in-Advance-clause-limited c =
    let (h, st) = c.is_idle-stands.ensures.stands in
    outcome-limited c.advance.new.self h Advance c.advance.result 0 (advances-stand c.args.self.now c.advance.new.self h st c.advance.result c.advance.ensures.advances)

pub returns-in-Collect-clause-limited : goal.returns-in-Collect-clause-limited
returns-in-Collect-clause-limited c =
    let (h, st) = c.is_idle-stands.ensures.stands in
    outcome-limited c.collect.new.self h Collect c.collect.result 0 (collects-stand c.args.self.now c.collect.new.self h st c.collect.result c.collect.ensures.collects)
