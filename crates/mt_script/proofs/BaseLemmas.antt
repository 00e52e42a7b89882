-- No event changes after which commit the log began, and so a feed is refused as is said.
use Rattle.std.proofs.Common.{◌≡◌, ◌∙◌, ◌-◌, ◌⊎◌, ℕ, min, max, List, [], ◌∷◌, ◌++◌, length, Bool, true, false, Option, Some, None, Result, Ok, Err, IfErr, MatchOption, inl, inr, refl, sym, subst, ap}
use Rattle.std.proofs.Math.Nat.{zero-max}
use Rattle.std.specs.Option.{option_or}
use Rattle.std.specs.Prelude.{nat_lt}
use Rattle.mt_types.specs.Limits.{limit_fault, refused_if}
use Rattle.mt_types.specs.declared.refusal.Refusal.{Refusal}
use Rattle.mt_types.specs.declared.refusal.Refusal.TheVariants.{NoMemory, Behind}
use Rattle.mt_types.specs.declared.numbers.CallNo.{CallNo}
use Rattle.mt_types.specs.declared.numbers.PassNo.{PassNo}
use Rattle.mt_types.specs.declared.event.Request.{Request}
use Rattle.mt_types.specs.declared.event.Event.{Event}
use Rattle.mt_types.specs.declared.event.Event.TheVariants.{Begin, Step, Apply, ViewRead, ViewDrop, Advance, Collect}
use Rattle.mt_types.specs.declared.event.Outcome.{Outcome}
use Rattle.mt_types.specs.declared.event.Outcome.TheVariants.{Call as Called, Refused}
use Rattle.mt_promise.specs.History.{History, happening, moment}
use Rattle.mt_promise.specs.Legal.{held_from}
use Rattle.mt_commit.specs.Log.{LogView, trimmed, kept_after}
use Rattle.mt_steps.specs.declared.progress.Progress.{Progress}
use Rattle.mt_steps.specs.declared.progress.Progress.TheVariants.{Moved, Waits, Committed, Answered, Refused as EndsRefused}
use Rattle.mt_index.specs.Alone.{pass_0, next_call}
use Rattle.mt_index.specs.Feed.{feed_fault}
use Rattle.mt_index.specs.Events.{EventDoes, HappensAlone, StepsHappen, StepsToEnd}
use Rattle.mt_index.specs.Stands.{MachineView, Stands, Begins, Steps, StepsOpen, EndsBuild, Applies, AppliesTo, Drops, Advances, Collects, log_after, pinned}
use Rattle.mt_script.specs.Machine.{IsAt}
use Rattle.mt_script.specs.Script.{feed_begin, feed_refusal}
use Rattle.mt_index.proofs.BeginStands.{begins-stands}
use Rattle.mt_index.proofs.EventStands.{step_bounds}
use Rattle.mt_index.proofs.ViewEvents.{steps-stand}

abbrev log_base : MachineView → ℕ
log_base s = s.log.base

-- the end of a call and its begin leave it
after_base : (reads : Bool) (from : ℕ) (p : Progress) (log : LogView) → (trimmed (log_after reads from p log)).base ≡ log.base
after_base true from (Answered answer) log = refl
after_base false from (Answered answer) log = refl
after_base true from (EndsRefused refusal) log = refl
after_base false from (EndsRefused refusal) log = refl
after_base reads from Moved log = refl
after_base reads from Waits log = refl
after_base reads from (Committed number) log = refl

pinned_base : (reads : Bool) (log : LogView) → (pinned reads log).base ≡ log.base
pinned_base true log = refl
pinned_base false log = refl

begins_base : (s t : MachineView) (pass : PassNo) (request : Request) (outcome : Outcome) → Begins s pass request outcome t → log_base t ≡ log_base s
begins_base s t pass request (Called number) (none, is, work, of, new, next) = ap log_base next ∙ pinned_base _ s.log
begins_base s t pass request (Refused refusal) (why, same) = ap log_base same
begins_base s t pass request _ does = absurd does

steps_base : (s t : MachineView) (number : ℕ) (outcome : Outcome) (h : History) → Stands s h → Steps s number outcome t → log_base t ≡ log_base s
steps_base s t number outcome h st steps = elim steps [
  | inl none ↦ ap log_base none.2
  | inr (inl o) ↦ open_base o
  | inr (inr ends) ↦ elim ends.comes [
    | inl o ↦ ap log_base o.is_next
    | inr o ↦ ap log_base o.is_next
  ]
] where
  open_base : StepsOpen s number outcome t → log_base t ≡ log_base s
  open_base o =
      let same = step_bounds s h number o.calls o.tree o.log o.pass o.reads o.builds o.from o.p o.steps st in
      ap log_base o.is_next ∙ after_base o.reads o.from o.p o.log ∙ ap (λ (b : List ℕ × ℕ × ℕ × ℕ). b.3) same

applies_base : (s t : MachineView) (asked : ℕ) (outcome : Outcome) → Applies s asked outcome t → log_base t ≡ log_base s
applies_base s t asked outcome applies = elim applies [
  | inl none ↦ ap log_base none.2
  | inr to ↦ elim to.comes [
    | inl current ↦ ap log_base current.2
    | inr (inl short) ↦ ap log_base short.2
    | inr (inr on) ↦ ap log_base on.is_next
  ]
]

pub event_base : (s t : MachineView) (event : Event) (outcome : Outcome) (h : History) → Stands s h → EventDoes s event outcome t → t.log.base ≡ s.log.base
unfolding EventDoes
event_base s t (Begin pass request) outcome h st does = begins_base s t pass request outcome does
event_base s t (Step call) outcome h st does = steps_base s t call.0 outcome h st does
event_base s t (Apply view) outcome h st does = applies_base s t view.0 outcome does
event_base s t (ViewRead view floor start limit) outcome h st does = ap log_base does.1
event_base s t (ViewDrop view) outcome h st does = elim does [
  | inl none ↦ ap log_base none.2
  | inr drops ↦ ap log_base drops.is_next
]
event_base s t Advance outcome h st does = elim does [
  | inl spent ↦ ap log_base spent.2
  | inr next ↦ ap log_base next.2
]
event_base s t Collect outcome h st does = ap log_base does.is_next

-- nor do the steps of one call
steps_happen_base : (s t : MachineView) (call : CallNo) (outcomes : List Outcome) (h : History) → Stands s h → StepsHappen s call outcomes t → t.log.base ≡ s.log.base
unfolding EventDoes
steps_happen_base s t call [] h st same = ap log_base same
steps_happen_base s t call (o ∷ os) h st (next, one, rest) =
    let (opens, then) = steps-stand s next call.0 o h one.does st in
    steps_happen_base next t call os (happening (Step call) o opens ∷ h) then rest ∙ steps_base s next call.0 o h st one.does

pub alone_base : (s t : MachineView) (request : Request) (last : Outcome) (h : History) → Stands s h → HappensAlone s request last t → t.log.base ≡ s.log.base
unfolding HappensAlone EventDoes
alone_base s t request last h st happens = elim happens [
  | inl turned ↦ begins_base s t pass_0 request last turned.does
  | inr ran ↦
      let there = begins-stands s ran.begun pass_0 request (Called (next_call s)) h ran.begins st in
      steps_happen_base ran.begun t (next_call s) (ran.outcomes ++ last ∷ []) (happening (Begin pass_0 request) (Called (next_call s)) 0 ∷ h) there ran.steps
      ∙ begins_base s ran.begun pass_0 request (Called (next_call s)) ran.begins
]

-- ---- feeds
begins_as_said : (s : MachineView) (h : History) → IsAt s h → s.log.held_after ≡ feed_begin s.log.retention h
begins_as_said s h at =
    let n = length (moment h).commits in
    at.0.trimmed
    ∙ ap (λ (base : ℕ). min (held_from (moment h)) (max base (n - s.log.retention))) at.1
    ∙ ap (min (held_from (moment h))) (zero-max (n - s.log.retention))

fault_as_said : (s : MachineView) (from limit : ℕ) (h : History) → IsAt s h → feed_fault s.log from limit ≡ feed_refusal s.log.retention from limit h
fault_as_said s from limit h at = ap (λ (begin : ℕ). option_or (limit_fault limit) (refused_if (nat_lt from begin) (Behind begin))) (begins_as_said s h at)

none_of : {T : Type 0} (fault : Option Refusal) (result : Result T Refusal) (x : T) → result ≡ Ok x → MatchOption fault (IfErr result (λ refusal. refusal ≡ NoMemory)) (λ refusal. result ≡ Err refusal) → fault ≡ None
none_of None result x is came = refl
none_of {T} (Some refusal) result x is came = absurd (let clash : ◌≡◌ {A = Result T Refusal} (Ok x) (Err refusal) = sym is ∙ came in cc)

some_of : {T : Type 0} (fault : Option Refusal) (result : Result T Refusal) (found : Refusal) → result ≡ Err found → MatchOption fault (IfErr result (λ refusal. refusal ≡ NoMemory)) (λ refusal. result ≡ Err refusal) → (fault ≡ Some found) ⊎ ((fault ≡ None) × (found ≡ NoMemory))
some_of None result found is came = inr (refl, subst (λ r. IfErr r (λ refusal. refusal ≡ NoMemory)) is came)
some_of {T} (Some refusal) result found is came = inl (let same : ◌≡◌ {A = Result T Refusal} (Err refusal) (Err found) = sym came ∙ is in cc)

pub fed_as_said : {T : Type 0} (s : MachineView) (from limit : ℕ) (h : History) → IsAt s h → (result : Result T Refusal) (x : T) → result ≡ Ok x → MatchOption (feed_fault s.log from limit) (IfErr result (λ refusal. refusal ≡ NoMemory)) (λ refusal. result ≡ Err refusal) → feed_refusal s.log.retention from limit h ≡ None
fed_as_said s from limit h at result x is came = sym (fault_as_said s from limit h at) ∙ none_of (feed_fault s.log from limit) result x is came

pub refused_as_said : {T : Type 0} (s : MachineView) (from limit : ℕ) (h : History) → IsAt s h → (result : Result T Refusal) (found : Refusal) → result ≡ Err found → MatchOption (feed_fault s.log from limit) (IfErr result (λ refusal. refusal ≡ NoMemory)) (λ refusal. result ≡ Err refusal)
    → (feed_refusal s.log.retention from limit h ≡ Some found) ⊎ ((feed_refusal s.log.retention from limit h ≡ None) × (found ≡ NoMemory))
refused_as_said s from limit h at result found is came =
    subst (λ (fault : Option Refusal). (fault ≡ Some found) ⊎ ((fault ≡ None) × (found ≡ NoMemory))) (fault_as_said s from limit h at) (some_of (feed_fault s.log from limit) result found is came)
