-- A walk over the rows of a map that others change, in pieces.
use Rattle.std.specs.Prelude.{ℕ, ◌-◌, ◌≡◌, ◌⊎◌, List, length, Option, Some, None, MatchOption, Result, Ok, Err, IfOk, slice_get}
use Rattle.std.specs.declared.ops.Bound.{Bound}
use Rattle.std.specs.declared.ops.Bound.TheVariants.{Excluded}
use Rattle.mt_types.specs.declared.refusal.Refusal.{Refusal}
use Rattle.mt_types.specs.declared.refusal.Refusal.TheVariants.{NoMemory}
use Rattle.mt_types.specs.declared.refusal.NoMemory.{NoMemory as Short}
use Rattle.mt_types.specs.declared.limits.TheConstants.{MAX_KEY_BYTES}
use Rattle.mt_types.specs.declared.row.Row.{Row}
use Rattle.mt_reads.specs.Walks.{keys_after, keys_of}
use Rattle.mt_shared.specs.declared.answers.At.{At}

-- the lower bound of the next piece: after the last key that was returned
abbrev pub rest_of : Bound (List ℕ) → Option (List ℕ) → Bound (List ℕ)
rest_of start None = start
rest_of start (Some last) = Excluded last

abbrev pub Rows : Type 0
Rows = List (List ℕ × Row)

-- the last key of these rows, if there is one; or memory for a copy of it was refused
abbrev pub IsLastKey : Rows → Result (Option (List ℕ)) Short → Type 0
IsLastKey rows result =
    MatchOption (slice_get rows (length rows - 1)) (result ≡ Ok None) (λ pair. IfOk result (λ last. last ≡ Some pair.0))

-- the piece of these rows, of which this is the last: the rows, unless there are none. If memory for a copy of the last key
-- was refused, the walk stays.
abbrev pub IsPieceTo : At Rows → Option (List ℕ × Row) → Option (List ℕ) → Result (Option (At Rows)) Refusal
    → Option (List ℕ) → Type 0
IsPieceTo at None last result next = (result ≡ Ok None) × (next ≡ last)
IsPieceTo at (Some pair) last result next =
    ((result ≡ Ok (Some at)) × (next ≡ Some pair.0)) ⊎ ((result ≡ Err NoMemory) × (next ≡ last))

-- A PIECE of a walk: the rows that were read, and the walk is then after the last of them
abbrev pub IsPiece : Result (At Rows) Refusal → Option (List ℕ) → Result (Option (At Rows)) Refusal → Option (List ℕ) → Type 0
IsPiece (Ok at) last result next = IsPieceTo at (slice_get at.value (length at.value - 1)) last result next
IsPiece (Err refusal) last result next = (result ≡ Err refusal) × (next ≡ last)

-- how many keys are after the last key that was returned, be there rows or not: so a walk ends
abbrev pub keys_left : Option (List ℕ) → ℕ
keys_left None = keys_of MAX_KEY_BYTES
keys_left (Some last) = keys_after MAX_KEY_BYTES last
