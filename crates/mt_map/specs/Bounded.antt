-- A walk within bounds, for its user.
use Rattle.std.specs.Prelude.{ℕ, ◌≡◌, ◌⊎◌, ◌↔◌, List, Option, Some, None, IsSomeAnd, true, false}
use Rattle.std.specs.FinMap.{get}
use Rattle.std.specs.declared.ops.Bound.{Bound}
use Rattle.mt_types.specs.Rows.{Rows}
use Rattle.mt_types.specs.declared.row.Row.{Row}
use Rattle.mt_asked.specs.Bounds.{is_from, is_up_to}
use Rattle.mt_reads.specs.Back.{IsBefore, GivesPrevious}
use Rattle.mt_reads.specs.Walks.{At, GivesNext, IsToCome}

-- WHERE A WALK WITHIN BOUNDS BEGINS: the rows to come are those whose keys aren't before the lower bound
abbrev pub BeginsFrom : Rows → Bound (List ℕ) → At → Type 0
BeginsFrom map start at = (key : List ℕ) (row : Row) → get map key ≡ Some row → IsToCome at key ↔ (is_from start key ≡ true)

-- THE NEXT ROW OF A WALK WITHIN BOUNDS: that of the least key to come, which isn't after the upper bound; or each key to
-- come is after it, and so is each that is still to come then
abbrev pub GivesWithin : Bound (List ℕ) → Rows → At → Option Row → At → Type 0
GivesWithin end map at (Some row) new = GivesNext map at (Some row) new × (is_up_to end new.key ≡ true)
GivesWithin end map at None new =
    (key : List ℕ) (row : Row) → get map key ≡ Some row → IsToCome at key ⊎ IsToCome new key → is_up_to end key ≡ false

-- WHERE A WALK BACK WITHIN BOUNDS BEGINS: the rows to come are those whose keys aren't after the upper bound
abbrev pub BeginsUpTo : Bound (List ℕ) → Option (List ℕ) → Type 0
BeginsUpTo end before = (key : List ℕ) → IsBefore before key ↔ (is_up_to end key ≡ true)

-- THE PREVIOUS ROW OF A WALK BACK WITHIN BOUNDS: that of the greatest key to come, which isn't before the lower bound; or
-- each key to come is before it, and so is each that is still to come then
abbrev pub GivesWithinBack : Bound (List ℕ) → Rows → Option (List ℕ) → Option Row → Option (List ℕ) → Type 0
GivesWithinBack start map before (Some row) new =
    GivesPrevious map before (Some row) new × IsSomeAnd new (λ key. is_from start key ≡ true)
GivesWithinBack start map before None new =
    (key : List ℕ) (row : Row) → get map key ≡ Some row → IsBefore before key ⊎ IsBefore new key → is_from start key ≡ false
