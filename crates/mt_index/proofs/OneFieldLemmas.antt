-- Each step of a call changes at most one node, and of a border one field.
use Rattle.std.proofs.Common.{ℕ, ◌≡◌, Option, inl, inr, refl, sym, ap, subst, ◌∙◌}
use Rattle.mt_types.specs.declared.numbers.CallNo.{CallNo}
use Rattle.mt_types.specs.declared.numbers.PassNo.{PassNo}
use Rattle.mt_types.specs.declared.event.Event.TheVariants.{Step}
use Rattle.mt_types.specs.declared.event.Outcome.{Outcome}
use Rattle.mt_promise.specs.History.{moment}
use Rattle.mt_arena.specs.Arena.{ArenaView}
use Rattle.mt_commit.specs.Log.{newest}
use Rattle.mt_steps.specs.declared.progress.Progress.{Progress}
use Rattle.mt_steps.specs.declared.progress.Progress.TheVariants.{Moved, Waits, Committed, Answered, Refused}
use Rattle.mt_steps.specs.OneNode.{ChangesOneNode}
use Rattle.mt_steps.specs.Step.{commit_of}
use Rattle.mt_steps.proofs.AgingLemmas.{age_same}
use Rattle.mt_index.specs.Stands.{MachineView, CallStands, StepsOpen, Steps, outcome_of}
use Rattle.mt_index.specs.OneField.{commit_in, IsOneField}
use Rattle.mt_index.proofs.PairedLemmas.{paired-some}

-- a step is the commit that its outcome is
commit_is : (number : ℕ) (pass : PassNo) (from to : ℕ) (p : Progress) → commit_of p ≡ commit_in (outcome_of number pass from to p)
commit_is number pass from to Moved = refl
commit_is number pass from to Waits = refl
commit_is number pass from to (Committed commit) = refl
commit_is number pass from to (Answered answer) = refl
commit_is number pass from to (Refused refusal) = refl

-- the tree is as it was
unchanged : (s t : MachineView) (call : CallNo) (outcome : Outcome) → t.tree ≡ s.tree → IsOneField s (Step call) outcome t
unchanged s t call outcome same = λ h at. subst (λ (a : ArenaView). ChangesOneNode (commit_in outcome) at.w.chart s.tree a) (sym same) (age_same {w = at.w} {next = at.w}).one

-- a step of an open call
open_step : (s t : MachineView) (call : CallNo) (outcome : Outcome) → StepsOpen s call.0 outcome t → IsOneField s (Step call) outcome t
open_step s t call outcome o = λ h at.
    let f = paired-some (CallStands s.columns s.epoch s.tree at.w h) 0 s.calls.begun call.0 s.calls.calls (moment h).calls o.steps.call at.calls o.steps.is_open in
    let stepped = o.steps.made.law.steps o.steps.call.epoch f.call.moves f.related.past at.w at.world f.related.epoch f.related.true in
    let commit : commit_of o.p ≡ commit_in outcome = commit_is call.0 o.pass o.from (newest o.log) o.p ∙ ap commit_in (sym o.is_outcome) in
    subst (λ (a : ArenaView). ChangesOneNode (commit_in outcome) at.w.chart s.tree a) (sym (ap (λ (m : MachineView). m.tree) o.is_next))
    (subst (λ (c : Option ℕ). ChangesOneNode c at.w.chart s.tree o.tree) commit stepped.goes.age.one)

pub steps-one_field : (s t : MachineView) (call : CallNo) (outcome : Outcome) → Steps s call.0 outcome t → IsOneField s (Step call) outcome t
steps-one_field s t call outcome (inl (none, refused, same)) = unchanged s t call outcome (ap (λ (m : MachineView). m.tree) same)
steps-one_field s t call outcome (inr (inl went)) = open_step s t call outcome went
steps-one_field s t call outcome (inr (inr ends)) = elim ends.comes [
  | inl opens ↦ unchanged s t call outcome (ap (λ (m : MachineView). m.tree) opens.is_next)
  | inr opens_not ↦ unchanged s t call outcome (ap (λ (m : MachineView). m.tree) opens_not.is_next)
]
