-- The bytes in which answers are handed out. A number has eight bytes, the highest first; before bytes, and before the
-- items of a list, stands how many there are.
use Rattle.std.specs.Prelude.{ℕ, ◌/◌, ◌%◌, ◌^◌, List, ◌++◌, length, Option, Some, None}
use Rattle.std.specs.List.{flat_map}
use Rattle.std.specs.Int.{w64, to_be_bytes}
use Rattle.mt_types.specs.declared.row.Row.{Row}
use Rattle.mt_types.specs.declared.row.Delta.{Delta}
use Rattle.mt_types.specs.declared.view.Page.{Page}

abbrev pub number_spelling : ℕ → List ℕ
number_spelling number = to_be_bytes w64 number

abbrev pub bytes_spelling : List ℕ → List ℕ
bytes_spelling bytes = number_spelling (length bytes) ++ bytes

abbrev pub list_spelling : {A : Type 0} → (A → List ℕ) → List A → List ℕ
list_spelling item items = number_spelling (length items) ++ flat_map item items

-- a row: its version, then its columns
abbrev pub row_spelling : Row → List ℕ
row_spelling row = number_spelling row.version ++ list_spelling bytes_spelling row.columns

-- a row with its key before it
abbrev pub pair_spelling : List ℕ × Row → List ℕ
pair_spelling pair = bytes_spelling pair.0 ++ row_spelling pair.1

abbrev pub pairs_spelling : List (List ℕ × Row) → List ℕ
pairs_spelling pairs = list_spelling pair_spelling pairs

-- a number of up to 128 bits: its upper half, then its lower half
abbrev pub sum_spelling : ℕ → List ℕ
sum_spelling sum = number_spelling (sum / 2 ^ 64) ++ number_spelling (sum % 2 ^ 64)

-- the totals of a page: at which number of commits the view is, how many rows it has, and the sums of its columns
abbrev pub totals_spelling : Page → List ℕ
totals_spelling page =
    number_spelling page.at ++ number_spelling page.count ++ list_spelling sum_spelling page.sums

-- a page: its totals, and the rows
abbrev pub page_spelling : Page → List ℕ
page_spelling page = totals_spelling page ++ pairs_spelling page.rows

-- a row that may be absent: how many there are, then the row
abbrev pub maybe_spelling : Option Row → List ℕ
maybe_spelling None = number_spelling 0
maybe_spelling (Some row) = number_spelling 1 ++ row_spelling row

-- rows each of which may be absent
abbrev pub found_spelling : List (Option Row) → List ℕ
found_spelling found = list_spelling maybe_spelling found

-- a delta: the number of its commit, its key, the row before and the row after
abbrev pub delta_spelling : Delta → List ℕ
delta_spelling delta =
    number_spelling delta.number ++ bytes_spelling delta.key ++ maybe_spelling delta.before
    ++ maybe_spelling delta.after

abbrev pub deltas_spelling : List Delta → List ℕ
deltas_spelling deltas = list_spelling delta_spelling deltas
