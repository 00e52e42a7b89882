-- How many rows of a map have keys in a range, and the rows of many keys.
use Rattle.std.specs.Prelude.{ℕ, ◌≡◌, nat_lt, List, map, length, min, Option, Some, None}
use Rattle.std.specs.FinMap.{get}
use Rattle.std.specs.List.{list_any}
use Rattle.std.specs.Option.{option_map, option_or}
use Rattle.mt_types.specs.Limits.{key_fault, end_key_fault, columns_fault, refused_if}
use Rattle.mt_types.specs.Rows.{Rows, shown}
use Rattle.mt_types.specs.Views.{afresh}
use Rattle.mt_types.specs.declared.limits.TheConstants.{MAX_KEY_BYTES, MAX_RANGE}
use Rattle.mt_types.specs.declared.refusal.Refusal.{Refusal}
use Rattle.mt_types.specs.declared.refusal.Refusal.TheVariants.{BadLimit, KeyTooLong}
use Rattle.mt_types.specs.declared.row.Row.{Row}
use Rattle.mt_types.specs.declared.view.RowTest.TheVariants.{Any}
use Rattle.mt_types.specs.declared.view.ViewSpec.TheVariants.{Range}

-- HOW MANY ROWS a map has in a range of keys, counted up to a number: as a view of this range has
abbrev pub count_of : Rows → List ℕ → Option (List ℕ) → ℕ → ℕ
count_of map from to most = min most (length (afresh (Range from to Any) map))

-- WHY A COUNT IS REFUSED: a key is too long
abbrev pub count_fault : List ℕ → Option (List ℕ) → Option Refusal
count_fault from to = option_or (key_fault from) (end_key_fault to)

-- THE ROWS OF MANY KEYS, each as it is shown with the columns that are asked for
abbrev pub rows_of : Rows → List ℕ → List (List ℕ) → List (Option Row)
rows_of rows asked keys = map (λ key. option_map (shown asked) (get rows key)) keys

abbrev pub keys_fault : List (List ℕ) → Option Refusal
keys_fault keys = refused_if (list_any (λ key. nat_lt MAX_KEY_BYTES (length key)) keys) KeyTooLong

-- WHY MANY GETS ARE REFUSED: for the first limit that they break, of keys, then of columns, then of their number
abbrev pub gets_fault : ℕ → List (List ℕ) → List ℕ → Option Refusal
gets_fault columns keys asked =
    option_or (keys_fault keys)
    (option_or (columns_fault columns asked) (refused_if (nat_lt MAX_RANGE (length keys)) BadLimit))
