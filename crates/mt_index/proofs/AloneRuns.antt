-- A call alone that has begun and made a run: from there it is taken on step by step.
use Rattle.std.proofs.Common.{ℕ, ◌≡◌, ◌<◌, ◌+◌, ◌∙◌, inl, inr, List, [], ◌∷◌, ◌++◌, refl, sym, ap, subst, arith}
use Rattle.std.specs.Prelude.{All}
use Rattle.std.proofs.lemmas.List.Elements.{All-head, All-tail}
use Rattle.mt_types.specs.declared.numbers.CallNo.{CallNo}
use Rattle.mt_types.specs.declared.event.Request.{Request}
use Rattle.mt_types.specs.declared.event.Outcome.{Outcome}
use Rattle.mt_types.specs.declared.event.Outcome.TheVariants.{Call as Called, Moved, Commit}
use Rattle.mt_promise.specs.History.{History}
use Rattle.mt_works.proofs.LoneWork.{LoneLaws}
use Rattle.mt_index.specs.declared.running.Run.{Run}
use Rattle.mt_index.specs.Alone.{IsIdle, pass_0}
use Rattle.mt_index.specs.Events.{GoesOnAtOnce, HappensAlone, StepsHappen}
use Rattle.mt_index.specs.Runs.{BeginsAndGoes, StepsGo}
use Rattle.mt_index.specs.Stands.{MachineView, Stands, HasBounds, Begins, Steps}
use Rattle.mt_index.proofs.AloneStands.{ComesTo, HasMoved, RunsFrom, came, machine_left, runs_from_begin, went_on}
use Rattle.mt_index.proofs.EventLemmas.{ends_alone, step-happens, steps-more}

-- it has begun on a machine, and its last step had this outcome
pub record AloneSoFar (s : MachineView) (request : Request) (call : CallNo) (outcome : Outcome) (t : MachineView) : Type 0 where
  pub before : MachineView
  pub from : RunsFrom s before request call
  pub begun : MachineView
  pub begins : Begins s pass_0 request (Called call) begun
  pub outcomes : List Outcome
  pub happen : StepsHappen begun call outcomes before
  pub last : Steps before call.0 outcome t
  pub bounds : HasBounds s.log.capacity s.log.retention t.log

bounds_on : (s m t : MachineView) → HasBounds s.log.capacity s.log.retention m.log → HasBounds m.log.capacity m.log.retention t.log → HasBounds s.log.capacity s.log.retention t.log
bounds_on s m t first then = (then.0 ∙ first.0, then.1 ∙ first.1)

has_moved : (o : Outcome) → GoesOnAtOnce o → HasMoved o
has_moved Moved on = inl refl
has_moved (Commit number) on = inr (number, refl)
has_moved _ on = absurd on

-- what is left after a step with this outcome
abbrev pub left_after : Outcome → MachineView → ℕ
left_after Moved s = machine_left s + 1
left_after (Commit number) s = machine_left s + 1
left_after _ s = 0

-- ---- the run with which it has begun
module _ (laws : LoneLaws) (s : MachineView) (request : Request) (call : CallNo) where
  runs_on_by : (m t : MachineView) (outcomes : List Outcome) → All GoesOnAtOnce outcomes → StepsGo m call outcomes t → RunsFrom s m request call → RunsFrom s t request call
  runs_on_by m t [] on same from = subst (λ (x : MachineView). RunsFrom s x request call) (sym same) from
  runs_on_by m t (o ∷ os) on (next, step, bounds, rest) from =
      runs_on_by next t os (All-tail GoesOnAtOnce o os on) rest (went_on laws s m next request call o (has_moved o (All-head GoesOnAtOnce o os on)) from step).0

  go_happen : (m t : MachineView) (outcomes : List Outcome) → StepsGo m call outcomes t → StepsHappen m call outcomes t
  go_happen m t [] same = same
  go_happen m t (o ∷ os) (next, step, bounds, rest) = (next, step-happens m next call o step, go_happen next t os rest)

  go_bounds : (m t : MachineView) (outcomes : List Outcome) → StepsGo m call outcomes t → HasBounds m.log.capacity m.log.retention t.log
  go_bounds m t [] same = subst (λ (x : MachineView). HasBounds m.log.capacity m.log.retention x.log) (sym same) (refl, refl)
  go_bounds m t (o ∷ os) (next, step, bounds, rest) = bounds_on m next t bounds (go_bounds next t os rest)

  pub alone_started : (h : History) (run : Run) (t : MachineView) → IsIdle s → Stands s h → BeginsAndGoes s pass_0 request call run t → AloneSoFar s request call run.last t
  alone_started h run t idle st goes = record {
    before = goes.before;
    from = runs_on_by goes.begun goes.before goes.outcomes goes.go_on goes.steps (runs_from_begin laws s goes.begun request call idle h st goes.begins);
    begun = goes.begun;
    begins = goes.begins;
    outcomes = goes.outcomes;
    happen = go_happen goes.begun goes.before goes.outcomes goes.steps;
    last = goes.last;
    bounds = bounds_on s goes.begun t goes.begun_bounds (bounds_on goes.begun goes.before t (go_bounds goes.begun goes.before goes.outcomes goes.steps) goes.last_bounds);
  }

  -- ---- one step more, after one by which it has moved
  module _ (m t : MachineView) (o p : Outcome) (so : AloneSoFar s request call o m) (moved : HasMoved o) (step : Steps m call.0 p t) where
    now : RunsFrom s m request call
    now = (went_on laws s so.before m request call o moved so.from so.last).0

    pub alone_further : HasBounds m.log.capacity m.log.retention t.log → AloneSoFar s request call p t
    alone_further bounds = record {
      before = m;
      from = now;
      begun = so.begun;
      begins = so.begins;
      outcomes = so.outcomes ++ o ∷ [];
      happen = steps-more so.begun so.before m call so.outcomes o so.happen (step-happens so.before m call o so.last);
      last = step;
      bounds = bounds_on s m t so.bounds bounds;
    }

    pub falls : left_after p t < left_after o m
    falls = subst (λ (n : ℕ). left_after p t < n) (sym (left_is o moved)) (less p (came laws s m t request call p now step))
      where
        left_is : (q : Outcome) → HasMoved q → left_after q m ≡ machine_left m + 1
        left_is q (inl is) = ap (λ (x : Outcome). left_after x m) is
        left_is q (inr (number, is)) = ap (λ (x : Outcome). left_after x m) is

        less : (q : Outcome) → ComesTo m now.runs.call.work call.0 now.made q t → left_after q t < machine_left m + 1
        less Moved comes = let f = comes.falls in omega (arith, f)
        less (Commit number) comes = let f = comes.falls in omega (arith, f)
        less _ comes = omega arith

-- and it ends so
pub ended_alone : (s t : MachineView) (request : Request) (call : CallNo) (o : Outcome) → AloneSoFar s request call o t → HappensAlone s request o t
ended_alone s t request call o so = ends_alone s so.before t request call o so.begins (so.begun, so.begins, so.outcomes, so.happen) so.last
