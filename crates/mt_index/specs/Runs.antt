-- Calls that begin and run in one function, and what this is to the machine: a begin and steps.
use Rattle.std.specs.Prelude.{ℕ, ◌≡◌, ◌≤◌, ◌<◌, ◌+◌, max, Bool, true, false, List, [], ◌∷◌, length, sum_by, All}
use Rattle.mt_types.specs.declared.numbers.CallNo.{CallNo}
use Rattle.mt_types.specs.declared.numbers.PassNo.{PassNo}
use Rattle.mt_types.specs.declared.event.Request.{Request}
use Rattle.mt_types.specs.declared.event.Event.TheVariants.{Begin}
use Rattle.mt_types.specs.declared.event.Outcome.{Outcome}
use Rattle.mt_types.specs.declared.event.Outcome.TheVariants.{Call as Called, Refused as RefusedOutcome}
use Rattle.mt_types.specs.Limited.{OutcomeIsLimited}
use Rattle.mt_steps.specs.declared.progress.Progress.{Progress}
use Rattle.mt_steps.specs.declared.progress.Progress.TheVariants.{Answered, Refused as EndsRefused}
use Rattle.mt_index.specs.declared.running.Run.{Run}
use Rattle.mt_index.specs.declared.calling.CallRun.{CallRun}
use Rattle.mt_index.specs.declared.calling.CallRun.TheVariants.{Refused, Ran}
use Rattle.mt_index.specs.Events.{GoesOnAtOnce, GoesThrough, Makes, commit_count}
use Rattle.mt_index.specs.Stands.{MachineView, HasBounds, Begins, Steps}

-- the step has ended its call
abbrev pub has_ended : Progress → Bool
has_ended (Answered answer) = true
has_ended (EndsRefused refusal) = true
has_ended _ = false

-- steps of one call, with these outcomes
abbrev pub StepsGo : MachineView → CallNo → List Outcome → MachineView → Type 0
StepsGo s call [] t = t ≡ s
StepsGo s call (outcome ∷ outcomes) t = (next : MachineView) × Steps s call.0 outcome next
    × HasBounds s.log.capacity s.log.retention next.log × StepsGo next call outcomes t

-- a call begins, and makes a run of steps, after each of which but the last it continues at once
pub record BeginsAndGoes (s : MachineView) (pass : PassNo) (request : Request) (call : CallNo) (run : Run)
    (t : MachineView) : Type 0 where
  pub begun : MachineView
  pub begins : Begins s pass request (Called call) begun
  pub begun_bounds : HasBounds s.log.capacity s.log.retention begun.log
  pub outcomes : List Outcome
  pub go_on : All GoesOnAtOnce outcomes
  pub before : MachineView
  pub steps : StepsGo begun call outcomes before
  pub last : Steps before call.0 run.last t
  pub last_bounds : HasBounds before.log.capacity before.log.retention t.log
  pub many : run.steps ≡ length outcomes + 1
  pub commits : run.commits ≡ sum_by commit_count outcomes + commit_count run.last

-- or its begin is refused
abbrev pub BeginsOrNot : MachineView → PassNo → Request → CallRun → MachineView → Type 0
BeginsOrNot s pass request (Refused refusal) t = Begins s pass request (RefusedOutcome refusal) t
BeginsOrNot s pass request (Ran call run) t = BeginsAndGoes s pass request call run t

-- A CALL BEGINS AND MAKES A RUN, or its begin is refused
abbrev pub CallGoes : MachineView → PassNo → Request → CallRun → MachineView → Type 0
CallGoes s pass request (Refused refusal) t = Makes s (Begin pass request) (RefusedOutcome refusal) t
CallGoes s pass request (Ran call run) t = (begun : MachineView) × Makes s (Begin pass request) (Called call) begun
    × GoesThrough begun call run t

-- it makes at least one step, and at most this many; fewer only if the call has ended or waits
abbrev pub RunsAtMost : ℕ → CallRun → Type 0
RunsAtMost most (Refused refusal) = Unit {0}
RunsAtMost most (Ran call run) = (run.steps ≤ max 1 most) × (run.steps < most → GoesOnAtOnce run.last → ⊥)

-- what it answers keeps the limits of an index
abbrev pub RunIsLimited : CallRun → Type 0
RunIsLimited (Refused refusal) = OutcomeIsLimited (RefusedOutcome refusal)
RunIsLimited (Ran call run) = OutcomeIsLimited run.last
