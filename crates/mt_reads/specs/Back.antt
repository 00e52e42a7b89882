-- A walk back over the rows of a map, for its user: the bound before which it is, and the row before that.
use Rattle.std.specs.Prelude.{ℕ, ◌≡◌, ◌+◌, ◌-◌, List, Option, Some, None, Bool, false, if◌then◌else◌}
use Rattle.std.specs.FinMap.{get}
use Rattle.std.specs.declared.cmp.Ordering.TheVariants.{Less}
use Rattle.mt_types.specs.Keys.{key_cmp}
use Rattle.mt_types.specs.Rows.{Rows}
use Rattle.mt_types.specs.declared.limits.TheConstants.{MAX_KEY_BYTES}
use Rattle.mt_types.specs.declared.row.Row.{Row}
use Rattle.mt_index.specs.Stands.{MachineView}
use Rattle.mt_reads.specs.Walks.{IsAfter, keys_of, keys_after}

-- the key is before a bound, if there is one
abbrev pub IsBefore : Option (List ℕ) → List ℕ → Type 0
IsBefore None key = Unit {0}
IsBefore (Some end) key = key_cmp key end ≡ Less

-- of the keys before a bound that have a row this is the greatest, and it has this row
abbrev pub IsPrevious : Rows → Option (List ℕ) → List ℕ → Row → Type 0
IsPrevious map before key row =
    (get map key ≡ Some row) × IsBefore before key
    × ((other : List ℕ) (its : Row) → get map other ≡ Some its → IsBefore before other → IsAfter other false key)

-- THE PREVIOUS ROW OF A WALK BACK over a map of rows: that of the greatest key before the bound, and this key is the bound
-- then; or no key is before the bound, and the bound stays
abbrev pub GivesPrevious : Rows → Option (List ℕ) → Option Row → Option (List ℕ) → Type 0
GivesPrevious map before (Some row) new = (key : List ℕ) × (new ≡ Some key) × IsPrevious map before key row
GivesPrevious map before None new =
    (new ≡ before) × ((key : List ℕ) (row : Row) → get map key ≡ Some row → IsBefore before key → ⊥)

-- how many keys are to come on a walk back, be there rows or not: so it ends. A bound may be a byte longer than a key.
abbrev pub keys_before : Option (List ℕ) → ℕ
keys_before None = keys_of (MAX_KEY_BYTES + 1)
keys_before (Some end) = keys_of (MAX_KEY_BYTES + 1) - 1 - keys_after (MAX_KEY_BYTES + 1) end

-- a walk back as contracts see it: the machine, the bound before which it is, and whether it was refused memory
pub record BackView : Type 0 where
  pub machine : MachineView
  pub before : Option (List ℕ)
  pub failed : Bool

-- the bound of these bytes, or none
abbrev pub bound_of : Bool → List ℕ → Option (List ℕ)
bound_of bounded key = if bounded then Some key else None
