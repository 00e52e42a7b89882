-- Laws of states: what a delta leaves true, and what an afresh state shows.
use Rattle.std.specs.Prelude.{ℕ, ◌≡◌, ◌↔◌, IsTrue, List, take}
use Rattle.std.specs.FinMap.{get, entries, empty, is_sorted}
use Rattle.mt_types.specs.Keys.{key_cmp}
use Rattle.mt_types.specs.Rows.{Rows, after}
use Rattle.mt_types.specs.declared.row.Row.{Row}
use Rattle.mt_promise.specs.History.{Moment, StandingView}
use Rattle.mt_promise.specs.Legal.{page_of}
use Rattle.mt_types.specs.declared.row.Delta.{Delta}
use Rattle.mt_commit.specs.Deltas.{redo}
use Rattle.mt_view.specs.State.{StateView, IsAfresh, belonging, applied, with_pairs, page_of_state}

-- a state is afresh for some rows exactly if it holds, under each key, the row that is there, if that belongs to the
--     view
abbrev pub AfreshByKey : Type 0
AfreshByKey =
    (state : StateView) (rows : Rows)
    → IsAfresh state rows ↔ ((key : List ℕ) → get state.rows key ≡ belonging state.spec key (get rows key))

-- a state that is afresh for some rows is, after a delta, afresh for the rows with that delta
abbrev pub AppliedIsAfresh : Type 0
AppliedIsAfresh =
    (state : StateView) (delta : Delta) (rows : Rows) → IsAfresh state rows
    → IsAfresh (applied delta state) (redo delta rows)

-- the rows that pairs in the order of their keys name are exactly those pairs
abbrev pub SortedPairsAreRows : Type 0
SortedPairsAreRows =
    (pairs : List (List ℕ × Row)) → IsTrue (is_sorted key_cmp pairs) → entries (with_pairs pairs empty) ≡ pairs

-- the state is that of a standing view: it has its specification and its number, and is afresh for the rows at that
--     number of commits of an index of C columns
pub record IsStateOf (C : ℕ) (m : Moment) (view : StandingView) (state : StateView) : Type 0 where
  pub spec : state.spec ≡ view.spec
  pub columns : state.columns ≡ C
  pub at : state.at ≡ view.at
  pub afresh : IsAfresh state (after C (take view.at m.commits))

-- and then it shows the page of the view
abbrev pub ShowsPage : Type 0
ShowsPage =
    (C : ℕ) (m : Moment) (view : StandingView) (state : StateView) (start : List ℕ) (limit : ℕ)
    → IsStateOf C m view state
    → page_of_state state start limit ≡ page_of C m view start limit
