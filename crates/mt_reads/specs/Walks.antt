-- A walk over the rows of a map, for its user: the key at which it is, and the next row.
use Rattle.std.specs.Prelude.{ℕ, zero, suc, ◌≡◌, ◌⊎◌, ◌+◌, ◌-◌, ◌*◌, List, [], ◌∷◌, Option, Some, None, IsSome, Bool, true, false, if◌then◌else◌}
use Rattle.std.specs.FinMap.{get}
use Rattle.std.specs.declared.cmp.Ordering.TheVariants.{Less}
use Rattle.mt_types.specs.Keys.{key_cmp}
use Rattle.mt_types.specs.Rows.{Rows}
use Rattle.mt_types.specs.declared.limits.TheConstants.{MAX_KEY_BYTES}
use Rattle.mt_types.specs.declared.row.Row.{Row}
use Rattle.mt_index.specs.Alone.{IsQuiet}
use Rattle.mt_index.specs.Stands.{MachineView}
use Rattle.mt_walk.specs.Standing.{IsWalk}
use Rattle.mt_walk.specs.Walk.{view_of}
use Rattle.mt_walk.specs.declared.walk.Walk.{Walk}

-- the key from which a walk began, or the key of the last row that it has given
pub record At : Type 0 where
  pub key : List ℕ
  pub given : Bool

-- the key is still to come: it isn't before the first, or it is after the last
abbrev pub IsAfter : List ℕ → Bool → List ℕ → Type 0
IsAfter start false key = (start ≡ key) ⊎ (key_cmp start key ≡ Less)
IsAfter last true key = key_cmp last key ≡ Less

abbrev pub IsToCome : At → List ℕ → Type 0
IsToCome at key = IsAfter at.key at.given key

-- THE NEXT ROW OF A WALK over a map of rows: that of the least key to come, and the walk is then at that key; or no key
-- is to come, and the walk stays
abbrev pub GivesNext : Rows → At → Option Row → At → Type 0
GivesNext map at (Some row) new =
    (new.given ≡ true) × (get map new.key ≡ Some row) × IsToCome at new.key
    × ((key : List ℕ) (other : Row) → get map key ≡ Some other → IsToCome at key → IsAfter new.key false key)
GivesNext map at None new =
    (new ≡ at) × ((key : List ℕ) (row : Row) → get map key ≡ Some row → IsToCome at key → ⊥)

-- THE FIRST KEY of a map of rows, or none
abbrev pub IsFirst : Rows → Option (List ℕ) → Type 0
IsFirst map (Some first) =
    IsSome (get map first) × ((key : List ℕ) (row : Row) → get map key ≡ Some row → IsAfter first false key)
IsFirst map None = (key : List ℕ) → get map key ≡ None

-- ---- how many keys are to come on a walk, be there rows or not: so it ends
-- how many keys have at most this many bytes
unfoldable pub keys_of : ℕ → ℕ
keys_of zero = 1
keys_of (suc bytes) = 1 + 256 * keys_of bytes

-- how many of these are after a key
unfoldable pub keys_after : ℕ → List ℕ → ℕ
keys_after zero key = 0
keys_after (suc bytes) [] = 256 * keys_of bytes
keys_after (suc bytes) (byte ∷ key) = (255 - byte) * keys_of bytes + keys_after bytes key

abbrev pub keys_to_come : At → ℕ
keys_to_come at = if at.given then keys_after MAX_KEY_BYTES at.key else keys_after MAX_KEY_BYTES at.key + 1

-- ---- a walk as contracts see it: the machine, its place, and whether it was refused memory
pub record RowsView : Type 0 where
  pub machine : MachineView
  pub at : At
  pub failed : Bool

abbrev pub rows_view : MachineView → Walk → Bool → RowsView
rows_view machine walk failed =
    record { machine = machine; at = record { key = walk.key.items; given = walk.given }; failed = failed }

-- unless memory was refused, it is a walk over the machine's tree, in which no change is under way
abbrev pub IsWalking : Bool → MachineView → Walk → Type 0
IsWalking true machine walk = Unit {0}
IsWalking false machine walk = IsQuiet machine × IsWalk (view_of walk) × ((view_of walk).tree ≡ machine.tree)
