-- What a range gathers before its pairs are made.
use Rattle.std.specs.Prelude.{ℕ, ◌≡◌, ◌≤◌, ◌+◌, List, [], ◌∷◌, length, slice_range}
use Rattle.std.specs.Borrow.{Bor}
use Rattle.mt_types.specs.Rows.{shown}
use Rattle.mt_types.specs.declared.limits.TheConstants.{MAX_KEY_BYTES}
use Rattle.mt_types.specs.declared.row.Row.{Row}

-- from the begin on the bytes are those of keys, one after the other, which end at these places
abbrev pub AreKeys : List ℕ → ℕ → List (ℕ × Bor Row) → Type 0
AreKeys bytes begin [] = begin ≡ length bytes
AreKeys bytes begin (row ∷ rows) =
    (begin ≤ row.0) × (row.0 ≤ length bytes) × (row.0 ≤ begin + MAX_KEY_BYTES) × AreKeys bytes row.0 rows

-- the pairs of these keys and rows, with the columns that are asked for
abbrev pub pairs_of : List ℕ → List ℕ → ℕ → List (ℕ × Bor Row) → List (List ℕ × Row)
pairs_of asked bytes begin [] = []
pairs_of asked bytes begin (row ∷ rows) =
    (slice_range bytes begin row.0, shown asked row.1.now) ∷ pairs_of asked bytes row.0 rows
