-- The limits, and the first that a request breaks.
use Rattle.std.specs.Prelude.{ℕ, nat_lt, nat_le, Bool, false, not, ◌&&◌, ◌||◌, ◌==◌, if◌then◌else◌, List, [], ◌∷◌, map, length}
use Rattle.std.specs.Prelude.{Option, Some, None}
use Rattle.std.specs.Option.{option_or}
use Rattle.std.specs.List.{list_any}
use Rattle.std.specs.Ordering.{is_lt}
use Rattle.mt_types.specs.Keys.{key_cmp}
use Rattle.mt_types.specs.declared.limits.TheConstants.{MAX_KEY_BYTES, MAX_COLUMNS, MAX_COLUMN_BYTES, MAX_RANGE, MAX_LOG_CAPACITY, MAX_LOG_RETENTION, MAX_PASSES}
use Rattle.mt_types.specs.declared.event.Request.{Request}
use Rattle.mt_types.specs.declared.event.Request.TheVariants.{Get, Put, PutIf, Remove, Range, Tidy, Build}
use Rattle.mt_types.specs.declared.view.ViewSpec.{ViewSpec}
use Rattle.mt_types.specs.declared.view.ViewSpec.TheVariants.{Range as RangeOf, Prefix as PrefixOf}
use Rattle.mt_types.specs.declared.view.RowTest.{RowTest}
use Rattle.mt_types.specs.declared.view.RowTest.TheVariants.{Any, Equals, AtLeast}
use Rattle.mt_types.specs.declared.refusal.Refusal.{Refusal}
use Rattle.mt_types.specs.declared.refusal.Refusal.TheVariants.{KeyTooLong, BadColumn, ColumnTooLong, BadLimit, BadRange}

abbrev pub refused_if : Bool → Refusal → Option Refusal
refused_if broken refusal = if broken then Some refusal else None

-- the number is from low to high
abbrev pub is_within : ℕ → ℕ → ℕ → Bool
is_within low high number = nat_le low number && nat_le number high

abbrev pub key_fault : List ℕ → Option Refusal
key_fault key = refused_if (nat_lt MAX_KEY_BYTES (length key)) KeyTooLong

-- the number of a column is not below C, or stands twice
abbrev pub misnames : ℕ → List ℕ → Bool
misnames C [] = false
misnames C (column ∷ columns) = nat_le C column || list_any (λ other. other == column) columns || misnames C columns

abbrev pub columns_fault : ℕ → List ℕ → Option Refusal
columns_fault C columns = refused_if (misnames C columns) BadColumn

abbrev pub bytes_fault : List ℕ → Option Refusal
bytes_fault bytes = refused_if (nat_lt MAX_COLUMN_BYTES (length bytes)) ColumnTooLong

abbrev pub sets_fault : ℕ → List (ℕ × List ℕ) → Option Refusal
sets_fault C sets =
    option_or (columns_fault C (map (λ set. set.0) sets))
    (refused_if (list_any (λ set. nat_lt MAX_COLUMN_BYTES (length set.1)) sets) ColumnTooLong)

abbrev pub limit_fault : ℕ → Option Refusal
limit_fault limit = refused_if (not (is_within 1 MAX_RANGE limit)) BadLimit

abbrev pub test_fault : ℕ → RowTest → Option Refusal
test_fault C Any = None
test_fault C (Equals column bytes) = option_or (refused_if (nat_le C column) BadColumn) (bytes_fault bytes)
test_fault C (AtLeast column least) = refused_if (nat_le C column) BadColumn

-- a range without an end has no bad end
abbrev pub end_fault : List ℕ → Option (List ℕ) → Option Refusal
end_fault lo None = None
end_fault lo (Some hi) = refused_if (not (is_lt (key_cmp lo hi))) BadRange

abbrev pub end_key_fault : Option (List ℕ) → Option Refusal
end_key_fault None = None
end_key_fault (Some hi) = key_fault hi

abbrev pub spec_fault : ℕ → ViewSpec → Option Refusal
spec_fault C (RangeOf lo hi test) =
    option_or (key_fault lo) (option_or (end_key_fault hi) (option_or (test_fault C test) (end_fault lo hi)))
spec_fault C (PrefixOf key test) = option_or (key_fault key) (test_fault C test)

-- the first limit that a request breaks: of keys, then of columns, then of numbers
abbrev pub request_fault : ℕ → Request → Option Refusal
request_fault C (Get key columns) = option_or (key_fault key) (columns_fault C columns)
request_fault C (Put key sets) = option_or (key_fault key) (sets_fault C sets)
request_fault C (PutIf key sets version) = option_or (key_fault key) (sets_fault C sets)
request_fault C (Remove key) = key_fault key
request_fault C (Range start limit columns) =
    option_or (key_fault start) (option_or (columns_fault C columns) (limit_fault limit))
request_fault C (Tidy key) = key_fault key
request_fault C (Build spec) = spec_fault C spec

-- the first limit that is broken where a page of a view is asked for
abbrev pub page_fault : List ℕ → ℕ → Option Refusal
page_fault start limit = option_or (key_fault start) (limit_fault limit)

-- the first limit that an index breaks which is to be opened with this number of columns and these bounds of its log
abbrev pub open_fault : ℕ → ℕ → ℕ → Option Refusal
open_fault columns capacity retention =
    option_or (refused_if (not (is_within 1 MAX_COLUMNS columns)) BadColumn)
    (refused_if (not (is_within 1 MAX_LOG_CAPACITY capacity && nat_le retention MAX_LOG_RETENTION)) BadLimit)

-- passes of an index, and readers of a published view, are from 1 to 255
abbrev pub passes_fault : ℕ → Option Refusal
passes_fault passes = refused_if (not (is_within 1 MAX_PASSES passes)) BadLimit
