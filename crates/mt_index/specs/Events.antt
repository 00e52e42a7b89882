-- What an event does to the machine, by its kind, and runs as chains of events.
use Rattle.std.specs.Prelude.{ℕ, ◌≡◌, ◌+◌, ◌⊎◌, List, [], ◌∷◌, ◌++◌, length, sum_by, All, Result, Ok, Err}
use Rattle.mt_types.specs.declared.numbers.CallNo.{CallNo}
use Rattle.mt_types.specs.declared.event.Request.{Request}
use Rattle.mt_types.specs.declared.event.Reply.{Reply}
use Rattle.mt_types.specs.declared.event.Event.{Event}
use Rattle.mt_types.specs.declared.event.Event.TheVariants.{Begin, Step, Apply, ViewRead, ViewDrop, Advance, Collect}
use Rattle.mt_types.specs.declared.event.Outcome.{Outcome}
use Rattle.mt_types.specs.declared.event.Outcome.TheVariants.{Call as Called, Moved, Commit, Done, Refused}
use Rattle.mt_types.specs.declared.refusal.Refusal.{Refusal}
use Rattle.mt_promise.specs.History.{History, GoesOn, happening}
use Rattle.mt_promise.specs.Headline.{GetsAreRight, RangesAreRight, ViewsAreRight}
use Rattle.mt_promise.specs.Legal.{Legal}
use Rattle.mt_index.specs.declared.options.Options.{Options}
use Rattle.mt_index.specs.declared.running.Run.{Run}
use Rattle.mt_index.specs.Alone.{pass_0, next_call}
use Rattle.mt_index.specs.Causes.{IsCaused}
use Rattle.mt_index.specs.OneStep.{IsOneStep}
use Rattle.mt_index.specs.OneField.{IsOneField}
use Rattle.mt_index.specs.Stands.{MachineView, Stands, HasBounds, Begins, Steps, Applies, ReadsView, Drops, Advances, Collects}

-- WHAT AN EVENT DOES, by its kind: it leads from one machine to the next with this outcome, and changes nothing else
unfoldable pub EventDoes : MachineView → Event → Outcome → MachineView → Type 0
EventDoes s (Begin pass request) outcome t = Begins s pass request outcome t
EventDoes s (Step call) outcome t = Steps s call.0 outcome t
EventDoes s (Apply view) outcome t = Applies s view.0 outcome t
EventDoes s (ViewRead view floor start limit) outcome t = ReadsView s view.0 floor start limit outcome × (t ≡ s)
EventDoes s (ViewDrop view) outcome t = Drops s view.0 outcome t
EventDoes s Advance outcome t = Advances s outcome t
EventDoes s Collect outcome t = Collects s outcome t

-- AN EVENT HAPPENS SO: what it does, for what cause, and that a step of a call is one step of its kind and changes at
-- most one node, and of a border one field
pub record Happens (s : MachineView) (event : Event) (outcome : Outcome) (t : MachineView) : Type 0 where
  pub does : EventDoes s event outcome t
  pub caused : IsCaused s event outcome t
  pub one_step : IsOneStep s event outcome t
  pub one_field : IsOneField s event outcome t

-- steps of one call, with these outcomes
abbrev pub StepsHappen : MachineView → CallNo → List Outcome → MachineView → Type 0
StepsHappen s call [] t = t ≡ s
StepsHappen s call (outcome ∷ outcomes) t =
    (next : MachineView) × Happens s (Step call) outcome next × StepsHappen next call outcomes t

-- THE MACHINE MAKES AN EVENT: it happens so, and whichever history the machine is at, it is then at that history with
-- this event and this outcome
pub record Makes (s : MachineView) (event : Event) (outcome : Outcome) (t : MachineView) : Type 0 where
  pub stands : (h : History) → Stands s h → (opens : ℕ) × Stands t (happening event outcome opens ∷ h)
  pub happens : Happens s event outcome t
  pub columns : t.columns ≡ s.columns
  pub bounds : HasBounds s.log.capacity s.log.retention t.log

-- THESE EVENTS HAPPEN one after the other, with these outcomes, one for each: the machine makes each of them
abbrev pub AllHappen : MachineView → List Event → List Outcome → MachineView → Type 0
AllHappen s [] [] t = t ≡ s
AllHappen s (event ∷ events) (outcome ∷ outcomes) t =
    (next : MachineView) × Makes s event outcome next × AllHappen next events outcomes t
AllHappen s [] (outcome ∷ outcomes) t = ⊥
AllHappen s (event ∷ events) [] t = ⊥

-- it makes steps of one call, with these outcomes
abbrev pub MakesSteps : MachineView → CallNo → List Outcome → MachineView → Type 0
MakesSteps s call [] t = t ≡ s
MakesSteps s call (outcome ∷ outcomes) t =
    (next : MachineView) × Makes s (Step call) outcome next × MakesSteps next call outcomes t

-- how many commits an outcome is
abbrev pub commit_count : Outcome → ℕ
commit_count (Commit number) = 1
commit_count _ = 0

-- the call continues, and has not waited
abbrev pub GoesOnAtOnce : Outcome → Type 0
GoesOnAtOnce Moved = Unit {0}
GoesOnAtOnce (Commit number) = Unit {0}
GoesOnAtOnce _ = ⊥

-- A RUN OF A CALL: steps of it, one after the other, after each of which but the last it continues at once
pub record GoesThrough (s : MachineView) (call : CallNo) (run : Run) (t : MachineView) : Type 0 where
  pub outcomes : List Outcome
  pub go_on : All GoesOnAtOnce outcomes
  pub before : MachineView
  pub steps : MakesSteps s call outcomes before
  pub last : Makes before (Step call) run.last t
  pub many : run.steps ≡ length outcomes + 1
  pub commits : run.commits ≡ sum_by commit_count outcomes + commit_count run.last

-- what a call alone came to
abbrev pub last_outcome : Result Reply Refusal → Outcome
last_outcome (Ok reply) = Done reply
last_outcome (Err refusal) = Refused refusal

-- A CALL ALONE IS ITS BEGIN AND THEN ITS STEPS, of which the last has this outcome; each step of a get visits a node
pub record StepsToEnd (s : MachineView) (request : Request) (last : Outcome) (t : MachineView) : Type 0 where
  pub begun : MachineView
  pub begins : Begins s pass_0 request (Called (next_call s)) begun
  pub outcomes : List Outcome
  pub steps : StepsHappen begun (next_call s) (outcomes ++ last ∷ []) t

-- or its begin, if that is refused
unfoldable pub HappensAlone : MachineView → Request → Outcome → MachineView → Type 0
HappensAlone s request last t = Happens s (Begin pass_0 request) last t ⊎ StepsToEnd s request last t

-- a machine on which nothing has happened, opened so
pub record IsOpened (options : Options) (s : MachineView) : Type 0 where
  pub columns : s.columns ≡ options.columns
  pub bounds : HasBounds options.log_capacity options.log_retention s.log
  pub stands : Stands s []

-- A RUN: these events, with these outcomes, happened one after the other on an empty index, and led to this machine;
-- each outcome was one that its event may have; so each get, each range and each page of a view is right; and the
-- machine can continue from there.
pub record IsRun (options : Options) (events : List Event) (outcomes : List Outcome) (machine : MachineView)
    (h : History) : Type 0 where
  pub told : GoesOn [] events outcomes h
  pub legal : Legal options.columns h
  pub gets : GetsAreRight options.columns h
  pub ranges : RangesAreRight options.columns h
  pub views : ViewsAreRight options.columns h
  pub columns : machine.columns ≡ options.columns
  pub stands : Stands machine h
  pub first : MachineView
  pub opened : IsOpened options first
  pub happen : AllHappen first events outcomes machine
