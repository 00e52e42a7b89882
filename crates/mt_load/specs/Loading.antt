-- An index that is being loaded.
use Rattle.std.specs.Prelude.{ℕ, ◌+◌, ◌≡◌, ◌⊎◌, List, None, length}
use Rattle.std.specs.FinMap.{get, insert, len}
use Rattle.std.specs.List.{AllByRecursion}
use Rattle.mt_types.specs.Rows.{Rows, columns_before}
use Rattle.mt_types.specs.declared.row.Row.{Row}
use Rattle.mt_promise.specs.History.{History, moment, rows}
use Rattle.mt_reach.specs.Reach.{EndsAt, Entry, Falls, Fits, IsClosedAt, row_in}
use Rattle.mt_commit.specs.Log.{newest}
use Rattle.mt_index.specs.Stands.{MachineView, Stands}

-- the row of these columns, made by the commit of this number
abbrev pub row_at : ℕ → Row → Row
row_at number row = record { version = number; columns = row.columns }

-- it has these rows after its commits, each of which was made by a call that has ended
pub record IsAt (map : Rows) (s : MachineView) : Type 0 where
  pub h : History
  pub stands : Stands s h
  pub closed : IsClosedAt (newest s.log) h
  pub has : rows s.columns (moment h) ≡ map

-- and they are these entries, of which the newest comes first
pub record HasLoaded (map : Rows) (entries : List Entry) (s : MachineView) : Type 0 where
  pub at : IsAt map s
  pub alike : (key : List ℕ) → get map key ≡ row_in entries key
  pub falls : Falls (newest s.log) entries
  pub ends : EndsAt (newest s.log) entries
  pub fits : AllByRecursion (Fits s.columns) entries
  pub many : length entries ≡ len map

-- its next commit is to make this row: then it has these rows with that one
pub record IsBefore (map : Rows) (key : List ℕ) (row : Row) (s : MachineView) : Type 0 where
  pub over : Rows
  pub at : IsAt over s
  pub next : newest s.log + 1 ≡ row.version
  pub wide : length (columns_before s.columns (get over key)) ≡ s.columns
  pub same : insert over key row ≡ insert map key row

-- each row is either left, and the index has none of its key, or it was loaded
abbrev pub IsParted : Rows → Rows → Rows → Type 0
IsParted all left map =
    (key : List ℕ) → ((get left key ≡ get all key) × (get map key ≡ None))
    ⊎ ((get left key ≡ None) × (get map key ≡ get all key))

-- those that were loaded are in the index
abbrev pub AreParted : Rows → Rows → MachineView → Type 0
AreParted all left s = (map : Rows) × (entries : List Entry) × HasLoaded map entries s × IsParted all left map
