-- The state of a view as its contracts see it: what a delta makes of it, what it shows, and when it is afresh.
use Rattle.std.specs.Prelude.{ℕ, ◌≡◌, if◌then◌else◌, List, [], ◌∷◌, length, Option, Some, None}
use Rattle.std.specs.FinMap.{entries, insert}
use Rattle.mt_types.specs.Rows.{Rows}
use Rattle.mt_types.specs.Views.{afresh, belongs, column_sums, page_from}
use Rattle.mt_types.specs.declared.row.Row.{Row}
use Rattle.mt_types.specs.declared.row.Delta.{Delta}
use Rattle.mt_types.specs.declared.view.Page.{Page}
use Rattle.mt_types.specs.declared.view.ViewSpec.{ViewSpec}
use Rattle.mt_commit.specs.Deltas.{with_row}

pub record StateView : Type 0 where
  pub spec : ViewSpec  -- which rows it is to hold
  pub columns : ℕ  -- how many columns it sums
  pub at : ℕ  -- the number of the commit at which it is
  pub rows : Rows  -- the rows that it holds

-- the row under a key, if it belongs to the view
abbrev pub belonging : ViewSpec → List ℕ → Option Row → Option Row
belonging spec key None = None
belonging spec key (Some row) = if belongs spec (key, row) then Some row else None

-- the state after a delta: the delta's row after is under its key if it belongs to the view, and else no row is
abbrev pub applied : Delta → StateView → StateView
applied delta state =
    record state {
      at = delta.number;
      rows = with_row delta.key (belonging state.spec delta.key delta.after) state.rows;
    }

-- the state holds what its view shows of these rows
abbrev pub IsAfresh : StateView → Rows → Type 0
IsAfresh state rows = entries state.rows ≡ afresh state.spec rows

-- the rows with these pairs, each instead of what was under its key
abbrev pub with_pairs : List (List ℕ × Row) → Rows → Rows
with_pairs [] rows = rows
with_pairs (pair ∷ pairs) rows = with_pairs pairs (insert rows pair.0 pair.1)

-- the first rows of the state from a key on, up to a limit, with its number, its count and its sums
abbrev pub page_of_state : StateView → List ℕ → ℕ → Page
page_of_state state start limit =
    let pairs = entries state.rows in
    record {
      at = state.at;
      count = length pairs;
      sums = column_sums 0 state.columns pairs;
      rows = page_from start limit pairs;
    }
