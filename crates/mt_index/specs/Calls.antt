-- The calls that are open, as contracts see them.
use Rattle.std.specs.Prelude.{ℕ, ◌≡◌, ◌≢◌, ◌≤◌, ◌+◌, ◌==◌, if◌then◌else◌, Bool, false, List, [], ◌∷◌, Option, Some, None}
use Rattle.std.specs.Option.{option_map}
use Rattle.mt_types.specs.declared.numbers.PassNo.{PassNo}
use Rattle.mt_promise.specs.Legal.{reads_log, is_build}
use Rattle.mt_commit.specs.Log.{LogView}
use Rattle.mt_arena.specs.Arena.{ArenaView}
use Rattle.mt_chart.specs.Tree.{Among}
use Rattle.mt_index.specs.declared.calls.Call.{Call}
use Rattle.mt_index.specs.declared.calls.Found.{Found}
use Rattle.mt_index.specs.declared.calls.Found.TheVariants.{Missing, Built, Stepped}
use Rattle.mt_works.specs.declared.work.Work.{Work}
use Rattle.mt_steps.specs.declared.progress.Progress.{Progress}
use Rattle.mt_steps.specs.World.{NotAmong}
use Rattle.mt_steps.specs.Step.{StepLawIn}
use Rattle.mt_works.specs.Causes.{WorkWaits, WorkFails}
use Rattle.mt_works.specs.Follows.{WorkFollows, WorkReads, WorkPosts}
use Rattle.mt_works.specs.Works.{request_of, held, IsTrue, MayWork, HasNext, IsBuiltWork, WorkBuilds}

pub record CallsView : Type 0 where
  pub begun : ℕ  -- how many calls have begun
  pub calls : List (ℕ × Call)  -- those that are open with their numbers, in the order of their begins

-- the call in `first`, if there is one, and then the others
abbrev pub with_first : Option (ℕ × Call) → List (ℕ × Call) → List (ℕ × Call)
with_first None others = others
with_first (Some first) others = first ∷ others

-- it is the call of this number
abbrev pub is_of : ℕ → Option (ℕ × Call) → Bool
is_of number None = false
is_of number (Some first) = first.0 == number

-- the open call of this number
abbrev pub call_at : ℕ → List (ℕ × Call) → Option Call
call_at number [] = None
call_at number (entry ∷ entries) = if entry.0 == number then Some entry.1 else call_at number entries

-- the pass of the open call of this number
abbrev pub pass_at : ℕ → List (ℕ × Call) → Option PassNo
pass_at number calls = option_map (λ (call : Call). call.pass) (call_at number calls)

-- the calls, of which this one is changed
abbrev pub with_changed : (Call → Call) → ℕ → List (ℕ × Call) → List (ℕ × Call)
with_changed change number [] = []
with_changed change number (entry ∷ entries) =
    if entry.0 == number then (entry.0, change entry.1) ∷ entries else entry ∷ with_changed change number entries

-- a call that has come so far
abbrev pub with_work : Work → Call → Call
with_work work call = record call { work = work }

-- the calls, once this one has ended
abbrev pub without : ℕ → List (ℕ × Call) → List (ℕ × Call)
without number [] = []
without number (entry ∷ entries) = if entry.0 == number then entries else entry ∷ without number entries

-- no call has a number above that of the last that began
abbrev pub AreBegun : ℕ → List (ℕ × Call) → Type 0
AreBegun begun [] = Unit {0}
AreBegun begun (entry ∷ entries) = (entry.0 ≤ begun) × AreBegun begun entries

-- no number is owned by two calls
abbrev pub AreApart : List (ℕ × Call) → Type 0
AreApart calls = (one other : ℕ × Call) → Among one calls → Among other calls → one.0 ≢ other.0 → (number : ℕ)
    → Among number (held one.1.work).owns → NotAmong number (held other.1.work).owns

-- the sum of a number of each call
abbrev pub total : (Call → ℕ) → List (ℕ × Call) → ℕ
total number_of [] = 0
total number_of (entry ∷ entries) = number_of entry.1 + total number_of entries

-- for how many deltas the calls have reserved room
abbrev pub all_reserved : List (ℕ × Call) → ℕ
all_reserved calls = total (λ call. (held call.work).reserves) calls

-- a call that changes the tree, as a put, a remove and a tidy do, counts as one; one that reads it alone, as a get, a
-- range and a build do, as none
abbrev pub changes : Call → ℕ
changes call = if reads_log (request_of call.work) then 0 else 1

-- how many of the calls change the tree
abbrev pub changing : List (ℕ × Call) → ℕ
changing calls = total changes calls

-- the epochs in which the calls began rise with their numbers, from this one on
abbrev pub BeganInOrder : ℕ → List (ℕ × Call) → Type 0
BeganInOrder least [] = Unit {0}
BeganInOrder least (entry ∷ entries) = (least ≤ entry.1.epoch) × BeganInOrder entry.1.epoch entries

-- the epoch in which the call began that has been open longest
abbrev pub oldest_epoch : List (ℕ × Call) → Option ℕ
oldest_epoch [] = None
oldest_epoch (entry ∷ entries) = Some entry.1.epoch

-- the call of this number may step
abbrev pub MayStepOf : ℕ → ℕ → ArenaView → LogView → Option Call → Type 0
MayStepOf now C a log None = Unit {0}
MayStepOf now C a log (Some call) = MayWork now C a log call.work × HasNext log call.work

-- a step of a call, in this epoch: it comes so far
pub record StepsOneCall (now C : ℕ) (call new : Call) (a after : ArenaView) (log left : LogView) (pass : PassNo)
    (reads builds : Bool) (from : ℕ) (p : Progress) : Type 0 where
  pub same_request : request_of new.work ≡ request_of call.work
  pub law : StepLawIn now C a after log left (request_of call.work) (held call.work) p (held new.work)
      (IsTrue C call.work) (IsTrue C new.work)
  pub goes_on : WorkBuilds a log call.work p new.work
  pub waits : WorkWaits a call.work p
  pub fails : WorkFails a log call.work p new.work
  pub follows : WorkFollows a log call.work p new.work
  pub read : WorkReads a after call.work
  pub posts : WorkPosts a after call.work p new.work
  pub same_call : new ≡ with_work new.work call
  pub pass_is : pass ≡ call.pass
  pub reads_is : reads ≡ reads_log (request_of call.work)
  pub builds_is : builds ≡ is_build (request_of call.work)
  pub from_is : from ≡ call.from

-- a step of the call of this number, in this epoch: it comes so far
pub record StepsCall (now C number : ℕ) (old new : CallsView) (a after : ArenaView) (log left : LogView) (pass : PassNo)
    (reads builds : Bool) (from : ℕ) (p : Progress) : Type 0 where
  pub call : Call
  pub is_open : call_at number old.calls ≡ Some call
  pub next : Call
  pub made : StepsOneCall now C call next a after log left pass reads builds from p
  pub changed : new ≡ record old { calls = with_changed (with_work next.work) number old.calls }

-- the open call of this number is a build that has taken all, whose view is to be opened
abbrev pub IsBuiltCall : Option Call → Type 0
IsBuiltCall None = ⊥
IsBuiltCall (Some call) = IsBuiltWork call.work

-- what was found of a call, and what it has done
abbrev pub FindsCall : ℕ → ℕ → Call → Call → ArenaView → ArenaView → LogView → LogView → Found → Type 0
FindsCall now C call new a after log left Missing = ⊥
FindsCall now C call new a after log left Built = IsBuiltWork call.work × (new ≡ call) × (after ≡ a) × (left ≡ log)
FindsCall now C call new a after log left (Stepped stepped) = (IsBuiltWork call.work → ⊥)
    × StepsOneCall now C call new a after log left stepped.pass stepped.reads stepped.builds stepped.from
    stepped.progress

-- the same of the open call of this number
abbrev pub Finds : ℕ → ℕ → ℕ → CallsView → CallsView → ArenaView → ArenaView → LogView → LogView → Found → Type 0
Finds now C number old new a after log left Missing =
    (call_at number old.calls ≡ None) × (new ≡ old) × (after ≡ a) × (left ≡ log)
Finds now C number old new a after log left Built =
    IsBuiltCall (call_at number old.calls) × (new ≡ old) × (after ≡ a) × (left ≡ log)
Finds now C number old new a after log left (Stepped stepped) = (IsBuiltCall (call_at number old.calls) → ⊥)
    × StepsCall now C number old new a after log left stepped.pass stepped.reads stepped.builds stepped.from
    stepped.progress
