-- What deltas say of rows: a delta done and undone, and the rows at the number of an earlier commit.
use Rattle.std.specs.Prelude.{ℕ, ◌-◌, ◌≡◌, List, [], ◌∷◌, drop, reverse, Option, Some, None}
use Rattle.std.specs.FinMap.{get, insert, remove}
use Rattle.mt_types.specs.Rows.{Rows}
use Rattle.mt_types.specs.declared.row.Row.{Row}
use Rattle.mt_types.specs.declared.row.Delta.{Delta}
use Rattle.mt_commit.specs.Log.{LogView}

-- the rows with this row under a key, or none
abbrev pub with_row : List ℕ → Option Row → Rows → Rows
with_row key None rows = remove rows key
with_row key (Some row) rows = insert rows key row

-- the rows after a delta, from those before it
abbrev pub redo : Delta → Rows → Rows
redo delta rows = with_row delta.key delta.after rows

-- the rows before a delta, from those after it
abbrev pub undo : Delta → Rows → Rows
undo delta rows = with_row delta.key delta.before rows

-- the rows before these deltas, of which the newest comes first
abbrev pub rows_before : List Delta → Rows → Rows
rows_before [] rows = rows
rows_before (delta ∷ deltas) rows = rows_before deltas (undo delta rows)

-- undone from the newest on, each delta finds its row after under its key
abbrev pub FitsNewestFirst : List Delta → Rows → Type 0
FitsNewestFirst [] rows = Unit {0}
FitsNewestFirst (delta ∷ deltas) rows = (get rows delta.key ≡ delta.after) × FitsNewestFirst deltas (undo delta rows)

-- the rows at the number of a commit, where these are the rows at the newest
abbrev pub rows_at : LogView → Rows → ℕ → Rows
rows_at log rows number = rows_before (reverse (drop (number - log.held_after) log.deltas)) rows

-- the log fits the rows at its newest commit
abbrev pub Fits : LogView → Rows → Type 0
Fits log rows = FitsNewestFirst (reverse log.deltas) rows
