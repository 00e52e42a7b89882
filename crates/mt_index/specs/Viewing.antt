-- What is true of views, and of open builds, by the commits of the history.
use Rattle.std.specs.Prelude.{ℕ, ◌+◌, ◌-◌, ◌≡◌, ◌≤◌, List, [], ◌∷◌, length, take, drop, count_by, Option, Some, None, Result, Ok, Err}
use Rattle.mt_types.specs.Rows.{after}
use Rattle.mt_types.specs.declared.row.Change.{Change}
use Rattle.mt_types.specs.declared.row.Delta.{Delta}
use Rattle.mt_types.specs.declared.event.Outcome.{Outcome}
use Rattle.mt_types.specs.declared.event.Outcome.TheVariants.{View, Refused}
use Rattle.mt_types.specs.declared.refusal.Refusal.{Refusal}
use Rattle.mt_types.specs.declared.view.Page.{Page}
use Rattle.mt_types.specs.declared.limits.TheConstants.{MAX_VIEWS}
use Rattle.mt_promise.specs.History.{Moment, OpenCall, StandingView, view_of}
use Rattle.mt_promise.specs.Legal.{is_build}
use Rattle.mt_commit.specs.Logged.{deltas_of}
use Rattle.mt_commit.specs.Log.{LogView, delta_of}
use Rattle.mt_view.specs.State.{StateView, applied}
use Rattle.mt_view.specs.Laws.{IsStateOf}
use Rattle.mt_works.specs.History.{LeadsTo}
use Rattle.mt_view.specs.Views.{ViewsView, Rises, all_standing, places, standing, with_state}
use Rattle.mt_works.specs.declared.work.Work.{Work}
use Rattle.mt_works.specs.declared.work.Work.TheVariants.{Build}

-- ---- views
-- a view is at a number of commits that there were, and its state is exactly what its specification yields on the rows
-- after these commits
pub record IsExact (C : ℕ) (m : Moment) (view : ℕ × StateView) : Type 0 where
  pub reached : view.1.at ≤ length m.commits
  pub state : IsStateOf C m (standing view) view.1

abbrev pub AreExact : ℕ → Moment → List (ℕ × StateView) → Type 0
AreExact C m [] = Unit {0}
AreExact C m (view ∷ views) = IsExact C m view × AreExact C m views

-- these are all views of the history, each with its number and exact, in the order of the numbers
pub record ListsViews (C : ℕ) (m : Moment) (listed : List (ℕ × StateView)) : Type 0 where
  pub standing : m.views ≡ all_standing listed
  pub exact : AreExact C m listed
  pub rises : Rises 0 m.built listed

-- the state is that of the view of this number, which exists: exactly what its specification yields there
pub record CopiesView (C : ℕ) (m : Moment) (number : ℕ) (state : StateView) : Type 0 where
  pub view : StandingView
  pub there : view_of number m.views ≡ Some view
  pub is_its : IsStateOf C m view state

-- the views are those of the history, each is exact, and a place is kept for each open build
pub record ViewsStand (C : ℕ) (m : Moment) (views : ViewsView) : Type 0 where
  pub built : views.built ≡ m.built
  pub standing : m.views ≡ all_standing views.views
  pub exact : AreExact C m views.views
  pub rises : Rises 0 views.built views.views
  pub building : views.building ≡ count_by (λ (call : OpenCall). is_build call.request) m.calls
  pub few : places views ≤ MAX_VIEWS

-- ---- builds
-- the deltas of the commits after a number, up to that of another
abbrev pub deltas_between : ℕ → List Change → ℕ → ℕ → List Delta
deltas_between C commits from upto = take (upto - from) (drop from (deltas_of C commits))

-- while a build scans, its view is at the commits of its begin; then the deltas that it is still to take lead it to
-- the rows after the last of them
abbrev pub ReadsFrom : ℕ → List Change → ℕ → Option ℕ → StateView → Type 0
ReadsFrom C commits from None state = state.at ≡ from
ReadsFrom C commits from (Some upto) state =
    (from ≤ state.at) × (state.at ≤ upto) × (upto ≤ length commits)
    × LeadsTo (deltas_between C commits state.at upto) (after C (take upto commits)) state

-- what is true of a build that began after `from` commits; it states nothing of other calls
abbrev pub ReadsOf : ℕ → List Change → ℕ → Work → Type 0
ReadsOf C commits from (Build building) =
    (building.build.state.columns ≡ C) × ReadsFrom C commits from building.upto building.build.state
ReadsOf C commits from _ = Unit {0}

-- the outcome of the event that reads a page with this result
abbrev pub page_outcome : Result Page Refusal → Outcome
page_outcome (Ok page) = View page
page_outcome (Err refusal) = Refused refusal

-- a view has been advanced by the delta of the next commit
pub record TakesView (number at : ℕ) (log : LogView) (old : ViewsView) (state : StateView)
    (new : ViewsView) : Type 0 where
  pub delta : Delta
  pub is_delta : delta_of log (at + 1) ≡ Some delta
  pub taken : new ≡ record old { views = with_state number (applied delta state) old.views }
