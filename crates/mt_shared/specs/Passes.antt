-- A pass as contracts see it, and what an event adds to it.
use Rattle.std.specs.Prelude.{ℕ, ◌+◌, ◌*◌, ◌≡◌, ◌≤◌, ◌⊎◌, Bool, false, List, [], ◌∷◌, length, max, sum_by}
use Rattle.mt_types.specs.declared.numbers.PassNo.{PassNo}
use Rattle.mt_types.specs.declared.event.Event.{Event}
use Rattle.mt_types.specs.declared.event.Event.TheVariants.{Begin, Step, Apply, ViewRead, ViewDrop}
use Rattle.mt_types.specs.declared.event.Outcome.{Outcome}
use Rattle.mt_types.specs.declared.event.Outcome.TheVariants.{Call, Moved, Again, Commit, Done, Applied, Current, View, Dropped, Refused}
use Rattle.mt_types.specs.declared.refusal.Refusal.TheVariants.{Spent, WrongPass}
use Rattle.mt_index.specs.declared.running.Run.{Run}
use Rattle.mt_index.specs.Events.{commit_count}
use Rattle.mt_shared.specs.declared.trace.Trace.{Trace}
use Rattle.mt_shared.specs.declared.trace.Entry.{Entry}
use Rattle.mt_shared.specs.Traces.{entry, part, Gains, IsNewTrace, Keeps}

pub record PassView : Type 0 where
  pub number : PassNo
  pub seen : ℕ  -- the most commits that a reply to it has shown
  pub events : ℕ  -- how many it has made
  pub commits : ℕ  -- how many of them were commits
  pub trace : Trace  -- the events that it made

-- the number of commits that an outcome shows: a reply, those at its end
abbrev pub seen_in : Outcome → ℕ
seen_in (Done reply) = reply.to
seen_in _ = 0

-- an event of the pass, which was made, is counted and traced
pub record Counts (p : PassView) (event : Event) (outcome : Outcome) (q : PassView) : Type 0 where
  pub number : q.number ≡ p.number
  pub events : q.events ≡ p.events + 1
  pub commits : q.commits ≡ p.commits + commit_count outcome
  pub seen : q.seen ≡ max p.seen (seen_in outcome)
  pub trace : Gains p.trace (entry p.number event outcome ∷ []) q.trace

-- the pass, with the steps of a run more
abbrev pub pass_after : Run → PassView → PassView
pass_after run p = record p {
  events = p.events + run.steps;
  commits = p.commits + run.commits;
  seen = max p.seen (seen_in run.last);
}

-- a begin returns a call or a refusal; a step returns no call, and a reply that it returns has its call and its pass;
-- an apply advances a view, or finds none to advance, or is refused; a page is not before its floor; a view is dropped,
-- or the drop is refused
abbrev pub Suits : PassNo → Event → Outcome → Type 0
Suits pass (Begin named request) (Call call) = Unit {0}
Suits pass (Begin named request) (Refused refusal) = Unit {0}
Suits pass (Begin named request) _ = ⊥
Suits pass (Step call) Moved = Unit {0}
Suits pass (Step call) Again = Unit {0}
Suits pass (Step call) (Commit number) = Unit {0}
Suits pass (Step call) (Done reply) = (reply.call ≡ call) × (reply.pass ≡ pass)
Suits pass (Step call) (Refused refusal) = Unit {0}
Suits pass (Step call) _ = ⊥
Suits pass (Apply view) (Applied number) = Unit {0}
Suits pass (Apply view) Current = Unit {0}
Suits pass (Apply view) (Refused refusal) = Unit {0}
Suits pass (Apply view) _ = ⊥
Suits pass (ViewRead view floor start limit) (View page) = floor ≤ page.at
Suits pass (ViewRead view floor start limit) (Refused refusal) = Unit {0}
Suits pass (ViewRead view floor start limit) _ = ⊥
Suits pass (ViewDrop view) Dropped = Unit {0}
Suits pass (ViewDrop view) (Refused refusal) = Unit {0}
Suits pass (ViewDrop view) _ = ⊥
Suits pass _ outcome = Unit {0}

-- What a pass learns from an event: either the event was refused as one that this pass can't make, and then the pass is
-- as it was; or it was made and counted.
abbrev pub IsTold : PassView → Event → Outcome → PassView → Type 0
IsTold p event outcome q =
    (((outcome ≡ Refused WrongPass) ⊎ (outcome ≡ Refused Spent)) × (q ≡ p))
    ⊎ (Counts p event outcome q × Suits p.number event outcome)

-- how many events the passes have made, and how many commits
abbrev pub events_by : List PassView → ℕ
events_by passes = sum_by (λ (p : PassView). p.events) passes

abbrev pub commits_by : List PassView → ℕ
commits_by passes = sum_by (λ (p : PassView). p.commits) passes

-- the pass has in its own trace just its part of these entries
abbrev pub HasItsPart : List Entry → PassView → Type 0
HasItsPart entries p = Keeps p.trace (part p.number entries)

-- a pass of this number that has done nothing, with a trace or without
pub record IsNewPass (traced : Bool) (n : ℕ) (p : PassView) : Type 0 where
  pub number : p.number.0 ≡ n
  pub seen : p.seen ≡ 0
  pub events : p.events ≡ 0
  pub commits : p.commits ≡ 0
  pub trace : IsNewTrace traced p.trace

-- passes that have done nothing, numbered from n
abbrev pub AreNewFrom : Bool → ℕ → List PassView → Type 0
AreNewFrom traced n [] = Unit {0}
AreNewFrom traced n (p ∷ passes) = IsNewPass traced n p × AreNewFrom traced (n + 1) passes

-- the first pass of an index into which rows were loaded that n commits led to: as if it had made each by a call of three
-- events
pub record IsPastPass (n : ℕ) (p : PassView) : Type 0 where
  pub number : p.number.0 ≡ 1
  pub seen : p.seen ≡ n
  pub events : p.events ≡ 3 * n
  pub commits : p.commits ≡ n
  pub trace : IsNewTrace false p.trace

-- it comes first, and the others have done nothing
abbrev pub ComesFirst : ℕ → List PassView → Type 0
ComesFirst n [] = ⊥
ComesFirst n (p ∷ passes) = IsPastPass n p × AreNewFrom false 2 passes

-- this many passes of such an index
pub record ArePassesAfter (n many : ℕ) (passes : List PassView) : Type 0 where
  pub count : length passes ≡ many
  pub each : ComesFirst n passes

-- this many passes that have done nothing, numbered from 1
pub record AreNewPasses (traced : Bool) (many : ℕ) (passes : List PassView) : Type 0 where
  pub count : length passes ≡ many
  pub each : AreNewFrom traced 1 passes
