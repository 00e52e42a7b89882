-- What a build reads, in terms of rows alone: which rows there were since its begin, and which deltas led from one to
-- the next.
use Rattle.std.specs.Prelude.{ℕ, ◌≡◌, ◌⊎◌, ◌&&◌, nat_eq, Bool, IsTrue, if◌then◌else◌, List, [], ◌∷◌, ◌++◌, Option, Some, IsSome}
use Rattle.std.specs.FinMap.{get}
use Rattle.std.specs.List.{starts_with}
use Rattle.std.specs.Ordering.{is_ge, eq_by_cmp}
use Rattle.mt_types.specs.Keys.{key_cmp}
use Rattle.mt_types.specs.Rows.{Rows}
use Rattle.mt_types.specs.Views.{is_before}
use Rattle.mt_types.specs.declared.row.Row.{Row}
use Rattle.mt_types.specs.declared.row.Delta.{Delta}
use Rattle.mt_types.specs.declared.view.ViewSpec.{ViewSpec}
use Rattle.mt_types.specs.declared.view.ViewSpec.TheVariants.{Range, Prefix}
use Rattle.mt_commit.specs.Deltas.{redo}
use Rattle.mt_view.specs.State.{StateView, belonging}

-- These are the rows at the moments since a begin, the newest first, and the deltas of the commits since, the oldest
-- first: each moment has the rows of the one before it, or those with the next delta.
abbrev pub GoesBy : List Rows → List Delta → Type 0
GoesBy [] deltas = ⊥
GoesBy (rows ∷ []) deltas = deltas ≡ []
GoesBy (rows ∷ (before ∷ past)) deltas =
    ((rows ≡ before) × GoesBy (before ∷ past) deltas)
    ⊎ ((older : List Delta) × (delta : Delta) × (deltas ≡ older ++ delta ∷ []) × (rows ≡ redo delta before)
    × GoesBy (before ∷ past) older)

-- at some moment this row stood under the key, or none
abbrev pub WasAt : List Rows → List ℕ → Option Row → Type 0
WasAt [] key row = ⊥
WasAt (rows ∷ past) key row = (get rows key ≡ row) ⊎ WasAt past key row

-- at each moment the key had a row
abbrev pub WasThroughout : List Rows → List ℕ → Type 0
WasThroughout [] key = Unit {0}
WasThroughout (rows ∷ past) key = IsSome (get rows key) × WasThroughout past key

-- the key is one of those of the view, whatever its row
abbrev pub is_within : ViewSpec → List ℕ → Bool
is_within (Range lo hi test) key = is_ge (key_cmp key lo) && is_before key hi
is_within (Prefix prefix test) key = starts_with nat_eq key prefix

-- what a scan of the keys of a view has read while these were the rows: only rows that stood under their keys at some
-- moment, and one of each key of the view that had a row throughout
pub record IsReadOf (spec : ViewSpec) (moments : List Rows) (read : Rows) : Type 0 where
  pub stood : (key : List ℕ) (row : Row) → get read key ≡ Some row → WasAt moments key (Some row)
  pub covered : (key : List ℕ) → IsTrue (is_within spec key) → WasThroughout moments key → IsSome (get read key)

-- what is under a key after these deltas, if this row was there before, or none
abbrev pub row_after : List Delta → List ℕ → Option Row → Option Row
row_after [] key row = row
row_after (delta ∷ deltas) key row =
    row_after deltas key (if eq_by_cmp key_cmp key delta.key then delta.after else row)

-- The deltas lead the state to these rows: of each key it holds what belongs to the view of a row, or of none, from
-- which the deltas make the key's row.
pub record LeadsTo (deltas : List Delta) (rows : Rows) (state : StateView) : Type 0 where
  pub from : (key : List ℕ) → (row : Option Row) × (get state.rows key ≡ belonging state.spec key row)
      × (row_after deltas key row ≡ get rows key)
