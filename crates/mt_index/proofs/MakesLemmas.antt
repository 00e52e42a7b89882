-- The machine makes an event: a begin, and the steps of a run.
use Rattle.std.proofs.Common.{ℕ, ◌≡◌, ◌≤◌, ◌+◌, List, [], ◌∷◌, ◌++◌, length, refl, arith}
use Rattle.std.specs.Prelude.{All, sum_by}
use Rattle.std.proofs.lemmas.List.{length-append}
use Rattle.std.proofs.lemmas.List.Elements.{All-nil, All-push}
use Rattle.std.proofs.lemmas.List.Sums.{sum_by-append}
use Rattle.mt_types.specs.declared.numbers.CallNo.{CallNo}
use Rattle.mt_types.specs.declared.numbers.PassNo.{PassNo}
use Rattle.mt_types.specs.declared.event.Request.{Request}
use Rattle.mt_types.specs.declared.event.Event.TheVariants.{Begin, Step}
use Rattle.mt_types.specs.declared.event.Outcome.{Outcome}
use Rattle.mt_types.specs.declared.event.Outcome.TheVariants.{Commit}
use Rattle.mt_index.specs.Stands.{MachineView, HasBounds, Begins}
use Rattle.mt_index.specs.declared.running.Run.{Run}
use Rattle.mt_index.specs.Events.{GoesOnAtOnce, GoesThrough, Makes, MakesSteps, commit_count}
use Rattle.mt_index.proofs.EventLemmas.{begin-does, makes_more}
use Rattle.mt_index.proofs.BeginStands.{begins-stands, begins-columns}

module _ (s t : MachineView) (pass : PassNo) (request : Request) (outcome : Outcome) (begins : Begins s pass request outcome t) where
  pub makes_begin : HasBounds s.log.capacity s.log.retention t.log → Makes s (Begin pass request) outcome t
  makes_begin bounds = record {
    stands = λ h st. (0, begins-stands s t pass request outcome h begins st);
    happens = record { does = begin-does s t outcome pass request begins; caused = tt; one_step = tt; one_field = tt };
    columns = begins-columns s t pass request outcome begins;
    bounds = bounds;
  }

-- ---- a run so far
pub record Going (s : MachineView) (call : CallNo) (steps commits : ℕ) (t : MachineView) : Type 0 where
  pub outcomes : List Outcome
  pub go_on : All GoesOnAtOnce outcomes
  pub made : MakesSteps s call outcomes t
  pub many : steps ≡ length outcomes
  pub commits_are : commits ≡ sum_by commit_count outcomes

pub goes_further : (s m t : MachineView) (call : CallNo) (steps commits more : ℕ) (o : Outcome) → Going s call steps commits m → Makes m (Step call) o t → more ≡ commit_count o → GoesOnAtOnce o → Going s call (steps + 1) (commits + more) t
goes_further s m t call steps commits more o going makes is on =
    let many = length-append going.outcomes (o ∷ []) in
    let whole = sum_by-append commit_count going.outcomes (o ∷ []) in
    let a = going.many in
    let b = going.commits_are in
    record {
      outcomes = going.outcomes ++ o ∷ [];
      go_on = All-push GoesOnAtOnce going.outcomes o going.go_on on;
      made = makes_more s m t call going.outcomes o going.made makes;
      many = omega (arith, many, a);
      commits_are = omega (arith, whole, b, is);
    }

pub going_none : (s : MachineView) (call : CallNo) → Going s call 0 0 s
going_none s call = record { outcomes = []; go_on = All-nil GoesOnAtOnce; made = refl; many = refl; commits_are = refl }

pub one_at_most : (o : Outcome) → commit_count o ≤ 1
one_at_most (Commit number) = omega arith
one_at_most _ = omega arith

as_many_at_most : (os : List Outcome) → sum_by commit_count os ≤ length os
as_many_at_most [] = omega arith
as_many_at_most (o ∷ os) = let a = one_at_most o in let b = as_many_at_most os in let whole = sum_by-append commit_count (o ∷ []) os in omega (arith, a, b, whole)

-- there are at most as many commits as steps
pub few_commits : {s : MachineView} {call : CallNo} {steps commits : ℕ} {t : MachineView} → Going s call steps commits t → commits ≤ steps
few_commits going = let a = as_many_at_most going.outcomes in let b = going.many in let c = going.commits_are in omega (arith, a, b, c)

pub run_commits : (s : MachineView) (call : CallNo) (run : Run) (t : MachineView) → GoesThrough s call run t → run.commits ≤ run.steps
run_commits s call run t goes = let a = as_many_at_most goes.outcomes in let b = one_at_most run.last in let c = goes.many in let d = goes.commits in omega (arith, a, b, c, d)

-- and one step more is a run
pub ran : (s m t : MachineView) (call : CallNo) (steps commits more : ℕ) (o : Outcome) → Going s call steps commits m → Makes m (Step call) o t → more ≡ commit_count o → GoesThrough s call (record { steps = steps + 1; commits = commits + more; last = o }) t
ran s m t call steps commits more o going makes is =
    let a = going.many in
    let b = going.commits_are in
    record {
      outcomes = going.outcomes;
      go_on = going.go_on;
      before = m;
      steps = going.made;
      last = makes;
      many = omega (arith, a);
      commits = omega (arith, b, is);
    }
