-- A range against the order of keys, for its user.
use Rattle.std.specs.Prelude.{ℕ, ◌≡◌, ◌≤◌, ◌-◌, ◌⊎◌, List, [], ◌∷◌, Option, Some, None, IsSome, unwrap_or, false}
use Rattle.std.specs.FinMap.{get}
use Rattle.mt_types.specs.Limits.{request_fault}
use Rattle.mt_types.specs.Rows.{Rows, shown}
use Rattle.mt_types.specs.declared.event.Request.TheVariants.{Range}
use Rattle.mt_types.specs.declared.refusal.Refusal.{Refusal}
use Rattle.mt_types.specs.declared.row.Row.{Row}
use Rattle.mt_reads.specs.Walks.{IsAfter}
use Rattle.mt_reads.specs.Back.{IsBefore, IsPrevious}

-- no key before the bound has a row
abbrev pub IsNoneBefore : Rows → Option (List ℕ) → Type 0
IsNoneBefore map before = (key : List ℕ) (row : Row) → get map key ≡ Some row → IsBefore before key → ⊥

-- THE LAST PAIRS OF A MAP BEFORE A BOUND, the greatest key first, up to a limit: those and no others, each row as it is
-- shown with the columns that are asked for
abbrev pub IsRangeBack : Rows → List ℕ → Option (List ℕ) → ℕ → List (List ℕ × Row) → Type 0
IsRangeBack map asked before limit [] = (limit ≡ 0) ⊎ IsNoneBefore map before
IsRangeBack map asked before limit (pair ∷ pairs) =
    (row : Row) × IsPrevious map before pair.0 row × (pair.1 ≡ shown asked row) × (1 ≤ limit)
    × IsRangeBack map asked (Some pair.0) (limit - 1) pairs

-- THE LAST KEY of a map of rows, or none
abbrev pub IsLast : Rows → Option (List ℕ) → Type 0
IsLast map (Some last) =
    IsSome (get map last) × ((key : List ℕ) (row : Row) → get map key ≡ Some row → IsAfter key false last)
IsLast map None = (key : List ℕ) → get map key ≡ None

-- WHY A RANGE BACK IS REFUSED: for the first limit that it breaks, as a range from the bound's key on
abbrev pub back_fault : ℕ → Option (List ℕ) → ℕ → List ℕ → Option Refusal
back_fault columns before limit asked = request_fault columns (Range (unwrap_or before []) limit asked)
