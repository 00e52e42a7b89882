-- The views of an index, as contracts see them, and as a history has them.
use Rattle.std.specs.Prelude.{ℕ, ◌+◌, ◌==◌, ◌≤◌, ◌<◌, not, if◌then◌else◌, List, [], ◌∷◌, length, map, filter, Option, Some, None}
use Rattle.mt_promise.specs.History.{StandingView}
use Rattle.mt_view.specs.State.{StateView}

pub record ViewsView : Type 0 where
  pub built : ℕ  -- how many views were opened: the number of the last one
  pub building : ℕ  -- for how many builds a place is kept
  pub views : List (ℕ × StateView)  -- the views with their numbers, in the order of the numbers

-- a view as a history has it
abbrev pub standing : ℕ × StateView → StandingView
standing entry = record { number = entry.0; spec = entry.1.spec; at = entry.1.at }

abbrev pub all_standing : List (ℕ × StateView) → List StandingView
all_standing views = map standing views

-- how many places are taken
abbrev pub places : ViewsView → ℕ
places views = length views.views + views.building

-- the state of the view of this number
abbrev pub state_at : ℕ → List (ℕ × StateView) → Option StateView
state_at number [] = None
state_at number (view ∷ views) = if view.0 == number then Some view.1 else state_at number views

-- the views, of which that of this number has come to this state
abbrev pub with_state : ℕ → StateView → List (ℕ × StateView) → List (ℕ × StateView)
with_state number state views = map (λ (view : ℕ × StateView). if view.0 == number then (view.0, state) else view) views

-- the views without that of this number
abbrev pub without : ℕ → List (ℕ × StateView) → List (ℕ × StateView)
without number views = filter (λ (view : ℕ × StateView). not (view.0 == number)) views

-- the numbers of the views rise, from above low up to high
abbrev pub Rises : ℕ → ℕ → List (ℕ × StateView) → Type 0
Rises low high [] = low ≤ high
Rises low high (view ∷ views) = (low < view.0) × Rises view.0 high views
