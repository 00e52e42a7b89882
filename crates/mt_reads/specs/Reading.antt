-- How rows are read before a bound, some at a time: for the proof of a walk back.
use Rattle.std.specs.Prelude.{ℕ, ◌≡◌, ◌≤◌, ◌+◌, List, [], ◌∷◌, ◌++◌, length, Option, Some, None, Bool, true, false}
use Rattle.std.specs.Borrow.{Bor}
use Rattle.std.specs.Option.{option_copied}
use Rattle.std.specs.FinMap.{get}
use Rattle.mt_types.specs.Rows.{Rows}
use Rattle.mt_types.specs.declared.limits.TheConstants.{MAX_KEY_BYTES}
use Rattle.mt_types.specs.declared.row.Row.{Row}
use Rattle.mt_promise.specs.History.{History, moment, rows}
use Rattle.mt_slice.specs.Place.{AreBytes}
use Rattle.mt_index.specs.Alone.{IsQuiet}
use Rattle.mt_index.specs.Stands.{MachineView, Stands}
use Rattle.mt_reads.specs.Back.{IsBefore, IsPrevious, GivesPrevious, bound_of}
use Rattle.mt_reads.specs.declared.reading.Reading.{Reading}

-- rows with their keys, that of the greatest key first
abbrev pub Pairs : Type 0
Pairs = List (List ℕ × Bor Row)

-- the bytes of the keys, from the least key on
abbrev pub bytes_of : Pairs → List ℕ
bytes_of [] = []
bytes_of (pair ∷ pairs) = bytes_of pairs ++ pair.0

-- the rows, from that of the least key on, each with the place at which its key begins in the bytes
abbrev pub kept_of : Pairs → List (ℕ × Bor Row)
kept_of [] = []
kept_of (pair ∷ pairs) = kept_of pairs ++ (length (bytes_of pairs), pair.1) ∷ []

-- each row of the map before the one bound is before the other, which isn't after it
abbrev pub NoneBetween : Rows → Option (List ℕ) → Option (List ℕ) → Type 0
NoneBetween map unread before =
    ((key : List ℕ) (row : Row) → get map key ≡ Some row → IsBefore before key → IsBefore unread key)
    × ((key : List ℕ) → IsBefore unread key → IsBefore before key)

-- from a bound back these are the rows of the map, as far as another bound
abbrev pub IsChunk : Rows → Option (List ℕ) → Option (List ℕ) → Pairs → Type 0
IsChunk map unread before [] = NoneBetween map unread before
IsChunk map unread before (pair ∷ pairs) =
    IsPrevious map before pair.0 pair.1.now × IsChunk map unread (Some pair.0) pairs

-- the bytes of a key
abbrev pub IsShort : List ℕ → Type 0
IsShort key = AreBytes key × (length key ≤ MAX_KEY_BYTES)

-- a bound has at most one byte more
abbrev pub IsBound : Option (List ℕ) → Type 0
IsBound None = Unit {0}
IsBound (Some key) = AreBytes key × (length key ≤ MAX_KEY_BYTES + 1)

abbrev pub AreShort : Pairs → Type 0
AreShort [] = Unit {0}
AreShort (pair ∷ pairs) = IsShort pair.0 × AreShort pairs

-- these bytes and rows are kept, which are those of a machine from a bound back, as far as another bound
pub record IsKept (machine : MachineView) (keys : List ℕ) (kept : List (ℕ × Bor Row)) (unread before : Option (List ℕ))
    : Type 0 where
  pub pairs : Pairs
  pub bytes : keys ≡ bytes_of pairs
  pub begins : kept ≡ kept_of pairs
  pub short : AreShort pairs
  pub chunk : (h : History) → Stands machine h → IsChunk (rows machine.columns (moment h)) unread before pairs

-- rows of a machine are read: those that are kept are to come, and then those before the bound of what isn't read
pub record IsReading (machine : MachineView) (keys : List ℕ) (kept : List (ℕ × Bor Row)) (unread : Option (List ℕ))
    (bounded : Bool) (key : List ℕ) : Type 0 where
  pub quiet : IsQuiet machine
  pub rows_left : IsKept machine keys kept unread (bound_of bounded key)
  pub upper : IsBound (bound_of bounded key)
  pub lower : IsBound unread
  pub unbounded : bounded ≡ false → key ≡ []

-- ---- the same of what the code keeps
abbrev pub Reads : Reading → Type 0
Reads r = IsReading r.machine.now r.chunk.keys.items r.chunk.rows.items r.unread r.is_bounded r.key.items

abbrev pub bound_at : Reading → Option (List ℕ)
bound_at r = bound_of r.is_bounded r.key.items

-- the row before the bound of the one is returned, and its key is the bound of the other
abbrev pub GivesRow : Reading → Reading → Option (Bor Row) → Type 0
GivesRow old new row = (h : History) → Stands old.machine.now h
    → GivesPrevious (rows old.machine.now.columns (moment h)) (bound_at old) (option_copied row) (bound_at new)

-- unless memory was refused
abbrev pub IsBack : Bool → Reading → Type 0
IsBack true r = Unit {0}
IsBack false r = Reads r
