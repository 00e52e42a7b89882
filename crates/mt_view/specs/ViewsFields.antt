-- The views, read off their fields, and what they keep.
use Rattle.std.specs.Prelude.{ℕ, ◌≡◌, ◌==◌, ◌≤◌, Bool, false, List, Option, Some, None}
use Rattle.std.specs.declared.cmp.Ordering.{Ordering}
use Rattle.std.specs.Ordering.{nat_cmp, ordering_then}
use Rattle.std.specs.BTreeSet.{BTreeSet, contains}
use Rattle.mt_types.specs.declared.limits.TheConstants.{MAX_VIEWS}
use Rattle.mt_view.specs.State.{StateView}
use Rattle.mt_view.specs.Views.{ViewsView, Rises, places, state_at}
use Rattle.mt_view.specs.declared.views.Views.TheInside.{Inside}

abbrev pub views_of : Inside → ViewsView
views_of views = record { built = views.built; building = views.building; views = views.views.entries }

-- The turn of a view is the number of commits at which it is, and its own number. This is the order of the turns:
--     the view that is further behind comes first, and of two that are as far the one with the lesser number.
abbrev pub turn_cmp : ℕ × ℕ → ℕ × ℕ → Ordering
turn_cmp one other = ordering_then (nat_cmp one.0 other.0) (nat_cmp one.1 other.1)

-- whether there is a view, and it is at this number of commits
abbrev pub stands_at : ℕ → Option StateView → Bool
stands_at at None = false
stands_at at (Some state) = state.at == at

-- the queue has the turn of each of these views, and no other: a number of commits and the number of a view are in it
--     exactly if there is a view of this number and it is there
abbrev pub IsQueueOf : List (ℕ × StateView) → BTreeSet (ℕ × ℕ) → Type 0
IsQueueOf views queue = (at number : ℕ) → contains turn_cmp queue (at, number) ≡ stands_at at (state_at number views)

pub record AreViews (views : Inside) : Type 0 where
  pub rises : Rises 0 views.built views.views.entries
  pub few : places (views_of views) ≤ MAX_VIEWS
  pub queued : IsQueueOf views.views.entries views.queue
