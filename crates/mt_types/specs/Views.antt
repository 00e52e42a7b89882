-- What a view shows, computed afresh from the rows.
use Rattle.std.specs.Prelude.{ℕ, zero, suc, ◌+◌, ◌*◌, nat_le, nat_eq, Bool, true, ◌&&◌, if◌then◌else◌, List, [], ◌∷◌, length, filter, take, sum_by, slice_index_or}
use Rattle.std.specs.Prelude.{Option, Some, None}
use Rattle.std.specs.List.{starts_with}
use Rattle.std.specs.Ordering.{is_lt, is_ge}
use Rattle.std.specs.Cmp.Lexicographic.{pointwise}
use Rattle.std.specs.FinMap.{entries}
use Rattle.mt_types.specs.Keys.{key_cmp}
use Rattle.mt_types.specs.Rows.{Rows}
use Rattle.mt_types.specs.declared.row.Row.{Row}
use Rattle.mt_types.specs.declared.view.ViewSpec.{ViewSpec}
use Rattle.mt_types.specs.declared.view.ViewSpec.TheVariants.{Range, Prefix}
use Rattle.mt_types.specs.declared.view.RowTest.{RowTest}
use Rattle.mt_types.specs.declared.view.RowTest.TheVariants.{Any, Equals, AtLeast}

-- bytes as a big-endian number, below the bytes before
abbrev pub number_from : ℕ → List ℕ → ℕ
number_from high [] = high
number_from high (byte ∷ bytes) = number_from (high * 256 + byte) bytes

-- the amount of a column: its bytes as a big-endian number, or 0 where there are more than eight
abbrev pub amount : List ℕ → ℕ
amount bytes = if nat_le (length bytes) 8 then number_from 0 bytes else 0

-- the bytes of a column of a row
abbrev pub column_of : ℕ → Row → List ℕ
column_of column row = slice_index_or row.columns column []

abbrev pub passes : RowTest → Row → Bool
passes Any row = true
passes (Equals column bytes) row = pointwise nat_eq (column_of column row) bytes
passes (AtLeast column least) row = nat_le least (amount (column_of column row))

-- the key is before the end of a range, if it has one
abbrev pub is_before : List ℕ → Option (List ℕ) → Bool
is_before key None = true
is_before key (Some hi) = is_lt (key_cmp key hi)

-- the key is in the range and the row passes the test
abbrev pub belongs : ViewSpec → List ℕ × Row → Bool
belongs (Range lo hi test) pair = is_ge (key_cmp pair.0 lo) && is_before pair.0 hi && passes test pair.1
belongs (Prefix key test) pair = starts_with nat_eq pair.0 key && passes test pair.1

-- the rows that belong to the view, in the order of their keys
abbrev pub afresh : ViewSpec → Rows → List (List ℕ × Row)
afresh spec rows = filter (belongs spec) (entries rows)

-- the sum of the amounts of a column
abbrev pub column_sum : ℕ → List (List ℕ × Row) → ℕ
column_sum column pairs = sum_by (λ pair. amount (column_of column pair.1)) pairs

-- the sums of n columns, from this one on
abbrev pub column_sums : ℕ → ℕ → List (List ℕ × Row) → List ℕ
column_sums column zero pairs = []
column_sums column (suc n) pairs = column_sum column pairs ∷ column_sums (column + 1) n pairs

-- the first pairs from a key on, up to a limit
abbrev pub page_from : List ℕ → ℕ → List (List ℕ × Row) → List (List ℕ × Row)
page_from start limit pairs = take limit (filter (λ pair. is_ge (key_cmp pair.0 start)) pairs)
