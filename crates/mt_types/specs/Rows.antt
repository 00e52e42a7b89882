-- Rows as a finite map, and what changes make of them: the model in which every promise is stated.
use Rattle.std.specs.Prelude.{ℕ, ◌+◌, ◌==◌, if◌then◌else◌, List, [], ◌∷◌, map, replicate, slice_index_or}
use Rattle.std.specs.Prelude.{Option, Some, None}
use Rattle.std.specs.FinMap.{FinMap, get, insert, remove, empty}
use Rattle.mt_types.specs.Keys.{key_cmp}
use Rattle.mt_types.specs.declared.row.Row.{Row}
use Rattle.mt_types.specs.declared.row.Change.{Change}
use Rattle.mt_types.specs.declared.row.Change.TheVariants.{Put, Drop}

-- which row stands under which key
abbrev pub Rows : Type 0
Rows = FinMap key_cmp Row

-- the bytes that a put names for column i (the first, if it names it twice), or else the old ones
abbrev pub new_bytes : List (ℕ × List ℕ) → ℕ → List ℕ → List ℕ
new_bytes [] i old = old
new_bytes (set ∷ sets) i old = if set.0 == i then set.1 else new_bytes sets i old

-- the columns from number i on, after a put
abbrev pub new_columns : List (ℕ × List ℕ) → ℕ → List (List ℕ) → List (List ℕ)
new_columns sets i [] = []
new_columns sets i (old ∷ olds) = new_bytes sets i old ∷ new_columns sets (i + 1) olds

-- the columns to which a put applies: those of the row, or else C empty ones
abbrev pub columns_before : ℕ → Option Row → List (List ℕ)
columns_before C None = replicate C []
columns_before C (Some row) = row.columns

-- a row's version; 0 where there is none
abbrev pub version_of : Option Row → ℕ
version_of None = 0
version_of (Some row) = row.version

-- the rows after a change, made by the commit of this number
abbrev pub after_change : ℕ → ℕ → Change → Rows → Rows
after_change C number (Put key sets) rows =
    insert rows key (record { version = number; columns = new_columns sets 0 (columns_before C (get rows key)) })
after_change C number (Drop key) rows = remove rows key

-- the rows after changes, of which the first is made by the commit after this number
abbrev pub after_from : ℕ → ℕ → Rows → List Change → Rows
after_from C number rows [] = rows
after_from C number rows (change ∷ changes) =
    after_from C (number + 1) (after_change C (number + 1) change rows) changes

-- the rows of an index of C columns after these changes from none on: the i-th is made by the commit of number i
abbrev pub after : ℕ → List Change → Rows
after C changes = after_from C 0 empty changes

-- the columns that are asked for, in the order of the question; none asked means all
abbrev pub chosen : List ℕ → List (List ℕ) → List (List ℕ)
chosen [] columns = columns
chosen (i ∷ is) columns = map (λ k. slice_index_or columns k []) (i ∷ is)

-- a row as an answer shows it
abbrev pub shown : List ℕ → Row → Row
shown asked row = record { version = row.version; columns = chosen asked row.columns }
