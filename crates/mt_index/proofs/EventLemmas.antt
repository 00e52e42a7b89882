-- Chains of events grow at their end.
use Rattle.std.proofs.Common.{ℕ, ◌≡◌, ◌∙◌, List, [], ◌∷◌, ◌++◌, Bool, true, false, eqb, Some, inl, inr, refl, sym, ap, subst}
use Rattle.std.specs.Prelude.{if◌then◌else◌}
use Rattle.std.specs.Option.{option_map}
use Rattle.std.proofs.lemmas.Bool.Decides.{eqb_tells}
use Rattle.mt_types.specs.declared.numbers.CallNo.{CallNo}
use Rattle.mt_types.specs.declared.numbers.PassNo.{PassNo}
use Rattle.mt_types.specs.declared.numbers.ViewNo.{ViewNo}
use Rattle.mt_types.specs.declared.event.Event.{Event}
use Rattle.mt_types.specs.declared.event.Request.{Request}
use Rattle.mt_types.specs.declared.event.Event.TheVariants.{Begin, Step, Apply, ViewRead, ViewDrop, Advance, Collect}
use Rattle.mt_types.specs.declared.event.Outcome.{Outcome}
use Rattle.mt_types.specs.declared.event.Outcome.TheVariants.{Call as Called, Done, Refused}
use Rattle.mt_types.specs.declared.event.Reply.{Reply}
use Rattle.mt_types.specs.declared.refusal.Refusal.{Refusal}
use Rattle.mt_types.specs.declared.refusal.Refusal.TheVariants.{NoSuchCall}
use Rattle.mt_commit.specs.Log.{newest}
use Rattle.mt_steps.specs.declared.progress.Progress.{Progress}
use Rattle.mt_steps.specs.declared.progress.Progress.TheVariants.{Moved as WentOn, Committed}
use Rattle.mt_works.specs.declared.work.Work.{Work}
use Rattle.mt_index.specs.declared.calls.Call.{Call}
use Rattle.mt_index.specs.Calls.{CallsView, call_at, pass_at, with_changed, with_work}
use Rattle.mt_index.specs.Stands.{MachineView, Begins, Steps, Applies, ReadsView, Drops, Advances, Collects, outcome_of, calls_after}
use Rattle.mt_index.specs.Alone.{pass_0, next_call}
use Rattle.mt_index.specs.Events.{EventDoes, Happens, AllHappen, StepsHappen, HappensAlone, Makes, MakesSteps, GoesOnAtOnce}
use Rattle.mt_index.proofs.NumberLemmas.{changed-here, changed-there}
use Rattle.mt_index.proofs.CauseLemmas.{steps-caused}
use Rattle.mt_index.proofs.OneStepLemmas.{steps-once}
use Rattle.mt_index.proofs.OneFieldLemmas.{steps-one_field}

pub all-more : (s m t : MachineView) (events : List Event) (outcomes : List Outcome) (event : Event) (outcome : Outcome) → AllHappen s events outcomes m → Makes m event outcome t → AllHappen s (events ++ event ∷ []) (outcomes ++ outcome ∷ []) t
all-more s m t [] [] event outcome same more = (t, subst (λ (x : MachineView). Makes x event outcome t) same more, refl)
all-more s m t (e ∷ es) (o ∷ os) event outcome (next, one, rest) more = (next, one, all-more next m t es os event outcome rest more)
all-more s m t [] (o ∷ os) event outcome all more = absurd all
all-more s m t (e ∷ es) [] event outcome all more = absurd all

pub steps-more : (s m t : MachineView) (call : CallNo) (outcomes : List Outcome) (outcome : Outcome) → StepsHappen s call outcomes m → Happens m (Step call) outcome t → StepsHappen s call (outcomes ++ outcome ∷ []) t
steps-more s m t call [] outcome same more = (t, subst (λ (x : MachineView). Happens x (Step call) outcome t) same more, refl)
steps-more s m t call (o ∷ os) outcome (next, one, rest) more = (next, one, steps-more next m t call os outcome rest more)

-- ---- what an event of each kind does
module _ (s t : MachineView) (outcome : Outcome) where
  pub begin-does : (pass : PassNo) (request : Request) → Begins s pass request outcome t → EventDoes s (Begin pass request) outcome t
  unfolding EventDoes
  begin-does pass request begins = begins

  pub step-does : (call : CallNo) → Steps s call.0 outcome t → EventDoes s (Step call) outcome t
  unfolding EventDoes
  step-does call steps = steps

  pub apply-does : (view : ViewNo) → Applies s view.0 outcome t → EventDoes s (Apply view) outcome t
  unfolding EventDoes
  apply-does view applies = applies

  pub drop-does : (view : ViewNo) → Drops s view.0 outcome t → EventDoes s (ViewDrop view) outcome t
  unfolding EventDoes
  drop-does view drops = drops

  pub advance-does : Advances s outcome t → EventDoes s Advance outcome t
  unfolding EventDoes
  advance-does advances = advances

  pub collect-does : Collects s outcome t → EventDoes s Collect outcome t
  unfolding EventDoes
  collect-does collects = collects

pub read-does : (s : MachineView) (outcome : Outcome) (view : ViewNo) (floor : ℕ) (start : List ℕ) (limit : ℕ) → ReadsView s view.0 floor start limit outcome → EventDoes s (ViewRead view floor start limit) outcome s
unfolding EventDoes
read-does s outcome view floor start limit reads = (reads, refl)

-- a step of a call happens so
pub step-happens : (s t : MachineView) (call : CallNo) (outcome : Outcome) → Steps s call.0 outcome t → Happens s (Step call) outcome t
step-happens s t call outcome steps = record {
  does = step-does s t outcome call steps;
  caused = steps-caused s t call outcome steps;
  one_step = steps-once s t call outcome steps;
  one_field = steps-one_field s t call outcome steps;
}

-- a call alone has begun, has made these steps, and makes its last one
abbrev Ran : MachineView → Request → CallNo → MachineView → Type 0
Ran s request call m = (begun : MachineView) × Begins s pass_0 request (Called call) begun × (outcomes : List Outcome)
    × StepsHappen begun call outcomes m

pub ends_alone : (s m t : MachineView) (request : Request) (call : CallNo) (last : Outcome) {begun : MachineView} → Begins s pass_0 request (Called call) begun → Ran s request call m → Steps m call.0 last t → HappensAlone s request last t
unfolding HappensAlone
ends_alone s m t request call last begins (begun, happens, outcomes, steps) ends =
    let is : call ≡ next_call s = begins.1 in
    inr (record {
      begun = begun;
      begins = subst (λ (n : CallNo). Begins s pass_0 request (Called n) begun) is happens;
      outcomes = outcomes;
      steps = subst (λ (n : CallNo). StepsHappen begun n (outcomes ++ last ∷ []) t) is
          (steps-more begun m t call outcomes last steps (step-happens m t call last ends));
    })

-- its begin is refused
pub turned_away : (s t : MachineView) (request : Request) (refusal : Refusal) → Begins s pass_0 request (Refused refusal) t → HappensAlone s request (Refused refusal) t
unfolding HappensAlone
turned_away s t request refusal begins = inl (record { does = begin-does s t (Refused refusal) pass_0 request begins; caused = tt; one_step = tt; one_field = tt })

-- ---- the pass of a call
pass_here : (n number : ℕ) (call : Call) (ks : List (ℕ × Call)) → eqb number n ≡ true → pass_at n ((number, call) ∷ ks) ≡ Some call.pass
pass_here n number call ks is = ap (λ (b : Bool). option_map (λ (c : Call). c.pass) (if b then Some call else call_at n ks)) is

pass_there : (n : ℕ) (k : ℕ × Call) (ks : List (ℕ × Call)) → eqb k.0 n ≡ false → pass_at n (k ∷ ks) ≡ pass_at n ks
pass_there n k ks is = ap (λ (b : Bool). option_map (λ (c : Call). c.pass) (if b then Some k.1 else call_at n ks)) is

pass_changed : (n : ℕ) (work : Work) (ks : List (ℕ × Call)) → pass_at n (with_changed (with_work work) n ks) ≡ pass_at n ks
pass_changed n work [] = refl
pass_changed n work (k ∷ ks) = elim (eqb_tells k.0 n) [
  | inl p ↦ ap (pass_at n) (changed-here n k ks p.0 (with_work work)) ∙ pass_here n k.0 (with_work work k.1) ks p.0 ∙ sym (pass_here n k.0 k.1 ks p.0)
  | inr p ↦ ap (pass_at n) (changed-there n k ks p.0 (with_work work)) ∙ pass_there n k (with_changed (with_work work) n ks) p.0 ∙ pass_changed n work ks ∙ sym (pass_there n k ks p.0)
]

by_step : (s : MachineView) (n : ℕ) (pass : PassNo) (from to : ℕ) (p : Progress) (work : Work) (calls : CallsView) → calls ≡ record s.calls { calls = with_changed (with_work work) n s.calls.calls } → GoesOnAtOnce (outcome_of n pass from to p)
    → pass_at n (calls_after n p calls).calls ≡ pass_at n s.calls.calls
by_step s n pass from to WentOn work calls changed on = ap (λ (c : CallsView). pass_at n c.calls) changed ∙ pass_changed n work s.calls.calls
by_step s n pass from to (Committed commit) work calls changed on = ap (λ (c : CallsView). pass_at n c.calls) changed ∙ pass_changed n work s.calls.calls
by_step s n pass from to _ work calls changed on = absurd on

ends_on : (outcome : Outcome) (reply : Reply) → outcome ≡ Done reply → GoesOnAtOnce outcome → ⊥
ends_on outcome reply is on = subst (λ (o : Outcome). GoesOnAtOnce o) is on

refused_on : (outcome : Outcome) (refusal : Refusal) → outcome ≡ Refused refusal → GoesOnAtOnce outcome → ⊥
refused_on outcome refusal is on = subst (λ (o : Outcome). GoesOnAtOnce o) is on

-- a call that continues keeps its pass
pub pass-kept : (s t : MachineView) (call : CallNo) (outcome : Outcome) → Makes s (Step call) outcome t → GoesOnAtOnce outcome → pass_at call.0 t.calls.calls ≡ pass_at call.0 s.calls.calls
unfolding EventDoes
pass-kept s t call outcome makes on = elim makes.happens.does [
  | inl none ↦ absurd (refused_on outcome NoSuchCall none.1 on)
  | inr rest ↦ elim rest [
    | inl made ↦ ap (λ (m : MachineView). pass_at call.0 m.calls.calls) made.is_next
        ∙ by_step s call.0 made.pass made.from (newest made.log) made.p made.steps.next.work made.calls made.steps.changed (subst (λ (o : Outcome). GoesOnAtOnce o) made.is_outcome on)
    | inr ends ↦ elim ends.comes [
      | inl opens ↦ absurd (ends_on outcome _ opens.is_outcome on)
      | inr unopened ↦ absurd (refused_on outcome unopened.refusal unopened.is_outcome on)
    ]
  ]
]

-- ---- steps in a row
pub makes_more : (s m t : MachineView) (call : CallNo) (outcomes : List Outcome) (outcome : Outcome) → MakesSteps s call outcomes m → Makes m (Step call) outcome t → MakesSteps s call (outcomes ++ outcome ∷ []) t
makes_more s m t call [] outcome same more = (t, subst (λ (x : MachineView). Makes x (Step call) outcome t) same more, refl)
makes_more s m t call (o ∷ os) outcome (next, one, rest) more = (next, one, makes_more next m t call os outcome rest more)
