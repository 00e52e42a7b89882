-- The commits of a log's records, made again.
use Rattle.std.specs.Prelude.{ℕ, ◌+◌, ◌≡◌, List, [], ◌∷◌, ◌++◌, map, take, Option, Some, None}
use Rattle.mt_types.specs.Rows.{after}
use Rattle.mt_types.specs.declared.row.Change.{Change}
use Rattle.mt_types.specs.declared.row.Change.TheVariants.{Put, Drop}
use Rattle.mt_types.specs.declared.row.Delta.{Delta}
use Rattle.mt_types.specs.declared.row.Row.{Row}
use Rattle.mt_commit.specs.Logged.{deltas_of}
use Rattle.mt_frame.specs.declared.entry.Entry.{Entry}
use Rattle.mt_frame.specs.declared.entry.Entry.TheVariants.{Header, Commits as Group, Rows, Sealed, Closed}
use Rattle.mt_frame.specs.declared.entry.Record.{Record}
use Rattle.mt_frame.specs.declared.entry.Record.TheVariants.{Row as RowOf, Removed}

-- columns, each with its number, as a put names them
abbrev pub numbered : ℕ → List (List ℕ) → List (ℕ × List ℕ)
numbered i [] = []
numbered i (column ∷ columns) = (i, column) ∷ numbered (i + 1) columns

-- the change by which a record's commit is made again: a put of all columns, or a remove
abbrev pub change_again : Record → Change
change_again (RowOf key columns) = Put key (numbered 0 columns)
change_again (Removed key) = Drop key

-- what a commit left of a key, as a log keeps it
abbrev pub left_of : List ℕ → Option Row → Record
left_of key (Some row) = RowOf key row.columns
left_of key None = Removed key

abbrev pub record_of : Delta → Record
record_of delta = left_of delta.key delta.after

-- the records of all commits of an index of C columns, from none on
abbrev pub records_of : ℕ → List Change → List Record
records_of C changes = map record_of (deltas_of C changes)

-- the records of the commits that entries have
abbrev pub records_in : List Entry → List Record
records_in [] = []
records_in (Header header ∷ entries) = records_in entries
records_in (Group commits ∷ entries) = commits.records ++ records_in entries
records_in (Rows part ∷ entries) = records_in entries
records_in (Sealed count ∷ entries) = records_in entries
records_in (Closed number ∷ entries) = records_in entries

-- THE FIRST m COMMITS, MADE AGAIN, make the rows that they made, with their versions
abbrev pub PrefixesMakeRows : Type 0
PrefixesMakeRows =
    (C m : ℕ) (changes : List Change)
    → after C (map change_again (take m (records_of C changes))) ≡ after C (take m changes)

-- and leave the same records
abbrev pub PrefixesMakeRecords : Type 0
PrefixesMakeRecords =
    (C m : ℕ) (changes : List Change)
    → records_of C (map change_again (take m (records_of C changes))) ≡ take m (records_of C changes)
