-- The promise in its own words: what follows from a legal history for each finished get, each finished range and each
--     page of a view, said of the events alone.
use Rattle.std.specs.Prelude.{ℕ, ◌+◌, ◌==◌, ◌≡◌, ◌≤◌, ◌⊎◌, Bool, true, false, List, [], ◌∷◌, ◌++◌, length, take, Option, Some, None, IsSome}
use Rattle.std.specs.FinMap.{get}
use Rattle.mt_types.specs.Rows.{after, shown}
use Rattle.mt_types.specs.Ranges.{IsRangeAnswer}
use Rattle.mt_types.specs.Views.{afresh, column_sums, page_from}
use Rattle.mt_promise.specs.History.{History, Happening, Moment, StandingView, happening, moment, rows, meant_view}
use Rattle.mt_promise.specs.Legal.{Legal}
use Rattle.mt_types.specs.declared.numbers.PassNo.{PassNo}
use Rattle.mt_types.specs.declared.numbers.CallNo.{CallNo}
use Rattle.mt_types.specs.declared.numbers.ViewNo.{ViewNo}
use Rattle.mt_types.specs.declared.row.Row.{Row}
use Rattle.mt_types.specs.declared.view.ViewSpec.{ViewSpec}
use Rattle.mt_types.specs.declared.view.Page.{Page}
use Rattle.mt_types.specs.declared.event.Event.{Event}
use Rattle.mt_types.specs.declared.event.Event.TheVariants.{Begin, Step, Apply, ViewRead, ViewDrop}
use Rattle.mt_types.specs.declared.event.Outcome.{Outcome}
use Rattle.mt_types.specs.declared.event.Outcome.TheVariants.{Call, Done, Applied, Dropped, View}
use Rattle.mt_types.specs.declared.event.Request.{Request}
use Rattle.mt_types.specs.declared.event.Request.TheVariants.{Get, Range, Build}
use Rattle.mt_types.specs.declared.event.Answer.TheVariants.{Absent, Found, Rows as RowsAnswer, Built}
use Rattle.mt_types.specs.declared.event.Reply.{Reply}

-- A call of this request has finished with this reply: its begin came when before had happened, and was answered by a
--     number; the step of that number by which it was done came when past had happened.
pub record IsFinished (h : History) (request : Request) (reply : Reply) (before past : History) : Type 0 where
  pub pass : PassNo
  pub number : CallNo
  pub begin_note : ℕ
  pub end_note : ℕ
  pub between : History
  pub later : History
  pub begun : past ≡ between ++ happening (Begin pass request) (Call number) begin_note ∷ before
  pub ended : h ≡ later ++ happening (Step number) (Done reply) end_note ∷ past

-- at some moment from what had happened before the begin of a call to what had happened before its end
pub record AtSomeMoment (before past : History) (P : Moment → Type 0) : Type 0 where
  pub newer : History
  pub then : History
  pub before_end : past ≡ newer ++ then
  pub since_begin : length before ≤ length then
  pub holds : P (moment then)

-- at each such moment
abbrev pub AtEachMoment : History → History → (Moment → Type 0) → Type 0
AtEachMoment before past P =
    (newer then : History) → past ≡ newer ++ then → length before ≤ length then → P (moment then)

-- each finished get replies with the row, or the absence, that its key had at some moment of that call
abbrev pub GetsAreRight : ℕ → History → Type 0
GetsAreRight C h =
    (key asked : List ℕ) (reply : Reply) (before past : History) → IsFinished h (Get key asked) reply before past →
    ((reply.answer ≡ Absent) × AtSomeMoment before past (λ m. get (rows C m) key ≡ None))
    ⊎ ((row : Row) × (reply.answer ≡ Found (shown asked row))
    × AtSomeMoment before past (λ m. get (rows C m) key ≡ Some row))

-- the row of a key was shown so at some moment of a call
abbrev pub WasShown : ℕ → History → History → List ℕ → List ℕ → Row → Type 0
WasShown C before past asked key answer =
    (row : Row) × (answer ≡ shown asked row) × AtSomeMoment before past (λ m. get (rows C m) key ≡ Some row)

-- the key had a row at each moment of a call
abbrev pub WasThereThroughout : ℕ → History → History → List ℕ → Type 0
WasThereThroughout C before past key = AtEachMoment before past (λ m. IsSome (get (rows C m) key))

-- each finished range gives every key that was there throughout exactly once, in order, and only pairs true during the
--     call
abbrev pub RangesAreRight : ℕ → History → Type 0
RangesAreRight C h =
    (start asked : List ℕ) (limit : ℕ) (reply : Reply) (before past : History) →
    IsFinished h (Range start limit asked) reply before past →
    (pairs : List (List ℕ × Row)) × (reply.answer ≡ RowsAnswer pairs)
    × IsRangeAnswer (WasShown C before past asked) (WasThereThroughout C before past) start limit pairs

abbrev pub drops_by : ViewNo → Event → Outcome → Bool
drops_by view (ViewDrop dropped) Dropped = dropped.0 == view.0
drops_by view _ _ = false

-- the view found is the one of this number
abbrev pub is_view : ViewNo → Option StandingView → Bool
is_view view None = false
is_view view (Some standing) = standing.number == view.0

-- an apply of 0 means the view that is furthest behind
abbrev pub takes_on_by : ViewNo → Moment → Event → Outcome → Bool
takes_on_by view m (Apply asked) (Applied number) = is_view view (meant_view asked.0 m.views)
takes_on_by view m _ _ = false

-- the event drops the view of this number
abbrev pub drops : ViewNo → Happening → Bool
drops view x = drops_by view x.event x.outcome

-- the event advances the view of this number by one commit, after what had happened
abbrev pub takes_on : ViewNo → History → Happening → Bool
takes_on view past x = takes_on_by view (moment past) x.event x.outcome

-- none of these events drops the view
abbrev pub NoneDrops : ViewNo → History → Type 0
NoneDrops view [] = Unit {0}
NoneDrops view (x ∷ later) = (drops view x ≡ false) × NoneDrops view later

abbrev pub one_if : Bool → ℕ
one_if true = 1
one_if false = 0

-- how many of these events, which came after a past, advance the view
abbrev pub applies : ViewNo → History → History → ℕ
applies view past [] = 0
applies view past (x ∷ later) = applies view past later + one_if (takes_on view (later ++ past) x)

-- A view of this number is at this number of commits: a build that has finished made it, to this specification; it
-- opened at a number of commits that there were at some moment of the build; it wasn't dropped since; and each event
-- that advanced it since brought it one commit further.
pub record StandsAt (past : History) (view : ViewNo) (spec : ViewSpec) (at : ℕ) : Type 0 where
  pub reply : Reply
  pub before : History
  pub until : History
  pub built : IsFinished past (Build spec) reply before until
  pub answer : reply.answer ≡ Built view
  pub opened_from : reply.from ≤ built.end_note
  pub opened_to : built.end_note ≤ reply.to
  pub kept : NoneDrops view built.later
  pub place : at ≡ built.end_note
      + applies view (happening (Step built.number) (Done reply) built.end_note ∷ until) built.later

-- the page is what the specification gives afresh on the rows after the page's number of commits
pub record ShowsAfresh (C : ℕ) (past : History) (spec : ViewSpec) (start : List ℕ) (limit : ℕ)
    (page : Page) : Type 0 where
  pub reached : page.at ≤ length (moment past).commits
  pub count : page.count ≡ length (afresh spec (after C (take page.at (moment past).commits)))
  pub sums : page.sums ≡ column_sums 0 C (afresh spec (after C (take page.at (moment past).commits)))
  pub rows : page.rows ≡ page_from start limit (afresh spec (after C (take page.at (moment past).commits)))

-- Each page is of a view that exists, at some number n of commits, and is exactly its filter and sums over the rows
--     after the first n commits.
abbrev pub ViewsAreRight : ℕ → History → Type 0
ViewsAreRight C h =
    (view : ViewNo) (floor : ℕ) (start : List ℕ) (limit : ℕ) (page : Page) (note : ℕ) (later past : History) →
    h ≡ later ++ happening (ViewRead view floor start limit) (View page) note ∷ past →
    (floor ≤ page.at) × ((spec : ViewSpec) × StandsAt past view spec page.at × ShowsAfresh C past spec start limit page)

-- the promise: the three of a history
pub record KeepsPromise (C : ℕ) (h : History) : Type 0 where
  pub gets : GetsAreRight C h
  pub ranges : RangesAreRight C h
  pub views : ViewsAreRight C h

-- the laws
abbrev pub LegalGetsAreRight : Type 0
LegalGetsAreRight = (C : ℕ) (h : History) → Legal C h → GetsAreRight C h

abbrev pub LegalRangesAreRight : Type 0
LegalRangesAreRight = (C : ℕ) (h : History) → Legal C h → RangesAreRight C h

abbrev pub LegalViewsAreRight : Type 0
LegalViewsAreRight = (C : ℕ) (h : History) → Legal C h → ViewsAreRight C h

abbrev pub LegalHistoriesKeepThePromise : Type 0
LegalHistoriesKeepThePromise = (C : ℕ) (h : History) → Legal C h → KeepsPromise C h
