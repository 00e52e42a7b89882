-- Which outcome each event may have, after any past: the promise of the index, outcome by outcome.
use Rattle.std.specs.Prelude.{ℕ, zero, suc, MatchBool, ◌+◌, ◌≡◌, ◌≢◌, ◌*◌, ◌<◌, ◌≤◌, ◌⊎◌, nat_lt, nat_le, Bool, true, false, IsTrue, if◌then◌else◌, List, [], ◌∷◌, ◌++◌, map, filter, length, count_by, take, Option, Some, None}
use Rattle.std.specs.Option.{option_or}
use Rattle.mt_types.specs.Rows.{after}
use Rattle.mt_types.specs.Views.{afresh, column_sums, page_from}
use Rattle.mt_types.specs.Limits.{request_fault, page_fault, refused_if}
use Rattle.mt_types.specs.Numbers.{greatest_number, least}
use Rattle.mt_promise.specs.History.{History, Moment, OpenCall, StandingView, moment, call_of, view_of, meant_view, Sometime}
use Rattle.mt_promise.specs.RightAnswers.{RightAnswer, Stands, HasVersion}
use Rattle.mt_types.specs.declared.limits.TheConstants.{MAX_OPEN_CALLS, MAX_VIEWS, MAX_NODES}
use Rattle.mt_promise.specs.declared.limits.TheConstants.{MAX_READS}
use Rattle.mt_types.specs.declared.event.Event.{Event}
use Rattle.mt_types.specs.declared.event.Event.TheVariants.{Begin, Step, Apply, ViewRead, ViewDrop, Advance, Collect}
use Rattle.mt_types.specs.declared.event.Outcome.{Outcome}
use Rattle.mt_types.specs.declared.event.Outcome.TheVariants.{Call, Moved, Again, Commit, Done, Applied, Current, View, Dropped, Epoch, Freed, Refused}
use Rattle.mt_types.specs.declared.event.Request.{Request}
use Rattle.mt_types.specs.declared.event.Request.TheVariants.{Get, Put, PutIf, Remove, Range, Tidy, Build}
use Rattle.mt_types.specs.declared.event.Reply.{Reply}
use Rattle.mt_types.specs.declared.view.Page.{Page}
use Rattle.mt_types.specs.declared.refusal.Refusal.{Refusal}
use Rattle.mt_types.specs.declared.refusal.Refusal.TheVariants.{NoMemory, ArenaFull, FeedFull, TooManyCalls, NoSuchCall, TooManyViews, NoSuchView, Behind, Spent, OtherVersion}

abbrev pub is_build : Request → Bool
is_build (Build spec) = true
is_build (Get key columns) = false
is_build (Put key sets) = false
is_build (PutIf key sets version) = false
is_build (Remove key) = false
is_build (Range start limit columns) = false
is_build (Tidy key) = false

abbrev pub is_get : Request → Bool
is_get (Get key columns) = true
is_get (Put key sets) = false
is_get (PutIf key sets version) = false
is_get (Remove key) = false
is_get (Range start limit columns) = false
is_get (Tidy key) = false
is_get (Build spec) = false

-- views that exist and builds that are open, together
abbrev pub view_places : Moment → ℕ
view_places m = length m.views + count_by (λ (call : OpenCall). is_build call.request) m.calls

-- why a call can't begin, by how many calls have begun, how many are open, and how many places of views are taken:
--     the request breaks a limit, the numbers of calls are spent, or there is no room
abbrev pub begin_fault : ℕ → ℕ → ℕ → ℕ → Request → Option Refusal
begin_fault C begun opened places request =
    option_or (request_fault C request)
    (option_or (refused_if (nat_le greatest_number begun) Spent)
    (option_or (refused_if (nat_le MAX_OPEN_CALLS opened) TooManyCalls)
    (if is_build request then refused_if (nat_le MAX_VIEWS places) TooManyViews else None)))

-- the outcome is this one, or out of memory
abbrev pub IsOrLacksMemory : Outcome → Outcome → Type 0
IsOrLacksMemory expected outcome = (outcome ≡ expected) ⊎ (outcome ≡ Refused NoMemory)

abbrev pub MayBegin : Moment → Option Refusal → Outcome → Type 0
MayBegin m (Some refusal) outcome = outcome ≡ Refused refusal
MayBegin m None outcome = IsOrLacksMemory (Call (record { 0 = m.begun + 1 })) outcome

-- a commit has the next number, and is the only one of its call
abbrev pub MayCommit : ℕ → History → OpenCall → Request → ℕ → Type 0
MayCommit C past call (Put key sets) number = (number ≡ length (moment past).commits + 1) × (call.committed ≡ None)
-- that of a conditional put comes only where its key's row is of the version asked
MayCommit C past call (PutIf key sets version) number =
    (number ≡ length (moment past).commits + 1) × (call.committed ≡ None) × HasVersion C key version (moment past)
MayCommit C past call (Remove key) number =
    (number ≡ length (moment past).commits + 1) × (call.committed ≡ None) × Stands C key (moment past)
MayCommit C past call _ number = ⊥

-- a get, a range and a build hold the log from the commits of their begin on
abbrev pub reads_log : Request → Bool
reads_log (Get key columns) = true
reads_log (Range start limit columns) = true
reads_log (Build spec) = true
reads_log (Put key sets) = false
reads_log (PutIf key sets version) = false
reads_log (Remove key) = false
reads_log (Tidy key) = false

-- from which number of commits on the log is held: the least at which a view stands or at which an open call began
--     that holds it, or else the number of all commits
abbrev pub held_from : Moment → ℕ
held_from m =
    least (length m.commits)
    (map (λ (v : StandingView). v.at) m.views
    ++ map (λ (call : OpenCall). call.from) (filter (λ call. reads_log call.request) m.calls))

-- the refusals that can end a call that has begun
abbrev pub MayEnd : ℕ → History → ℕ → Request → Refusal → Type 0
MayEnd C past began request NoMemory = Unit {0}
MayEnd C past began (Put key sets) ArenaFull = Unit {0}
MayEnd C past began (Put key sets) (FeedFull slowest) = Sometime began (λ m. held_from m ≡ slowest) past
MayEnd C past began (Put key sets) Spent = Unit {0}
MayEnd C past began (PutIf key sets version) ArenaFull = Unit {0}
MayEnd C past began (PutIf key sets version) (FeedFull slowest) = Sometime began (λ m. held_from m ≡ slowest) past
MayEnd C past began (PutIf key sets version) Spent = Unit {0}
-- a conditional put, only where its key's row was of the version found, and that isn't the one asked
MayEnd C past began (PutIf key sets version) (OtherVersion found) =
    (found ≢ version) × Sometime began (HasVersion C key found) past
MayEnd C past began (Remove key) (FeedFull slowest) = Sometime began (λ m. held_from m ≡ slowest) past
MayEnd C past began (Remove key) Spent = Unit {0}
-- a build, only where as many views were built as there are numbers
MayEnd C past began (Build spec) Spent = greatest_number ≤ (moment past).built
MayEnd C past began _ _ = ⊥

-- a reply carries its call's pass and number, and the numbers of commits at its begin and at its end
pub record RightReply (C : ℕ) (past : History) (call : OpenCall) (reply : Reply) (opens : ℕ) : Type 0 where
  pub pass : reply.pass.0 ≡ call.pass
  pub number : reply.call.0 ≡ call.number
  pub from : reply.from ≡ call.from
  pub to : reply.to ≡ length (moment past).commits
  pub answer : RightAnswer C past call call.request reply.answer opens

abbrev pub MayStep : ℕ → History → OpenCall → Outcome → ℕ → Type 0
-- a get doesn't continue for ever: it makes at most MAX_READS moves in a row for each number of a node
MayStep C past call Moved opens = IsTrue (is_get call.request) → call.moves < MAX_READS * MAX_NODES
MayStep C past call Again opens = Unit {0}
MayStep C past call (Commit number) opens = MayCommit C past call call.request number
MayStep C past call (Done reply) opens = RightReply C past call reply opens
-- a call that has committed never ends refused
MayStep C past call (Refused refusal) opens = (call.committed ≡ None) × MayEnd C past call.began call.request refusal
MayStep C past call _ opens = ⊥

abbrev pub MayStepAt : ℕ → History → Option OpenCall → Outcome → ℕ → Type 0
MayStepAt C past None outcome opens = outcome ≡ Refused NoSuchCall
MayStepAt C past (Some call) outcome opens = MayStep C past call outcome opens

-- a view that is behind is advanced by one commit, unless out of memory
abbrev pub MayApply : Moment → ℕ → Option StandingView → Outcome → Type 0
MayApply m zero None outcome = outcome ≡ Current
MayApply m (suc n) None outcome = outcome ≡ Refused NoSuchView
MayApply m view (Some v) outcome =
    MatchBool (nat_lt v.at (length m.commits)) (IsOrLacksMemory (Applied (v.at + 1)) outcome) (outcome ≡ Current)

-- what a view shows at its number of commits
abbrev pub page_of : ℕ → Moment → StandingView → List ℕ → ℕ → Page
page_of C m v start limit =
    let pairs = afresh v.spec (after C (take v.at m.commits)) in
    record { at = v.at; count = length pairs; sums = column_sums 0 C pairs; rows = page_from start limit pairs }

abbrev pub MayShow : ℕ → Moment → StandingView → List ℕ → ℕ → Option Refusal → Outcome → Type 0
MayShow C m v start limit (Some refusal) outcome = outcome ≡ Refused refusal
MayShow C m v start limit None outcome = IsOrLacksMemory (View (page_of C m v start limit)) outcome

abbrev pub MayRead : ℕ → Moment → Option StandingView → ℕ → List ℕ → ℕ → Outcome → Type 0
MayRead C m None floor start limit outcome = outcome ≡ Refused NoSuchView
MayRead C m (Some v) floor start limit outcome =
    MayShow C m v start limit (refused_if (nat_lt v.at floor) (Behind v.at)) outcome

abbrev pub MayReadView : ℕ → Moment → Option Refusal → ℕ → ℕ → List ℕ → ℕ → Outcome → Type 0
MayReadView C m (Some refusal) view floor start limit outcome = outcome ≡ Refused refusal
MayReadView C m None view floor start limit outcome = MayRead C m (view_of view m.views) floor start limit outcome

abbrev pub MayAdvance : Moment → Outcome → Type 0
MayAdvance m outcome =
    MatchBool (nat_lt m.epoch greatest_number) (outcome ≡ Epoch (m.epoch + 1)) (outcome ≡ Refused Spent)

abbrev pub MayDrop : Option StandingView → Outcome → Type 0
MayDrop None outcome = outcome ≡ Refused NoSuchView
MayDrop (Some v) outcome = outcome ≡ Dropped

abbrev pub IsFreed : Outcome → Type 0
IsFreed outcome = (count : ℕ) × (outcome ≡ Freed count)

-- the outcome that an event may have after this past
abbrev pub MayHappen : ℕ → History → Event → Outcome → ℕ → Type 0
MayHappen C past (Begin pass request) outcome opens =
    let m = moment past in
    MayBegin m (begin_fault C m.begun (length m.calls) (view_places m) request) outcome
MayHappen C past (Step call) outcome opens = MayStepAt C past (call_of call.0 (moment past).calls) outcome opens
MayHappen C past (Apply view) outcome opens =
    MayApply (moment past) view.0 (meant_view view.0 (moment past).views) outcome
MayHappen C past (ViewRead view floor start limit) outcome opens =
    MayReadView C (moment past) (page_fault start limit) view.0 floor start limit outcome
MayHappen C past (ViewDrop view) outcome opens = MayDrop (view_of view.0 (moment past).views) outcome
MayHappen C past Advance outcome opens = MayAdvance (moment past) outcome
MayHappen C past Collect outcome opens = IsFreed outcome

-- each outcome is one that its event may have
abbrev pub Legal : ℕ → History → Type 0
Legal C [] = Unit {0}
Legal C (h ∷ past) = Legal C past × MayHappen C past h.event h.outcome h.opens
