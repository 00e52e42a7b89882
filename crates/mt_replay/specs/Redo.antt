-- What a log says of rows, done again without a look at them: a commit sets or removes its key's row, and a part of a
-- checkpoint sets the rows that it lists.
use Rattle.std.specs.Prelude.{ℕ, ◌+◌, Bool, true, false, if◌then◌else◌, List, [], ◌∷◌, length}
use Rattle.std.specs.FinMap.{insert, remove}
use Rattle.mt_types.specs.Rows.{Rows}
use Rattle.mt_types.specs.declared.row.Row.{Row}
use Rattle.mt_frame.specs.declared.entry.Entry.{Entry}
use Rattle.mt_frame.specs.declared.entry.Entry.TheVariants.{Header, Commits as Group, Rows as Listed, Sealed, Closed}
use Rattle.mt_frame.specs.declared.entry.Record.{Record}
use Rattle.mt_frame.specs.declared.entry.Record.TheVariants.{Row as RowOf, Removed}
use Rattle.mt_replay.specs.Replay.{records_in}

-- the commit of this number: its key has a row of these columns, or none
abbrev pub record_redone : ℕ → Record → Rows → Rows
record_redone number (RowOf key columns) rows = insert rows key (record { version = number; columns = columns })
record_redone number (Removed key) rows = remove rows key

-- commits, of which the first is the one after n
abbrev pub records_redone : ℕ → List Record → Rows → Rows
records_redone n [] rows = rows
records_redone n (r ∷ records) rows = records_redone (n + 1) records (record_redone (n + 1) r rows)

-- rows, each with its key
abbrev pub pairs_redone : List (List ℕ × Row) → Rows → Rows
pairs_redone [] rows = rows
pairs_redone (pair ∷ pairs) rows = pairs_redone pairs (insert rows pair.0 pair.1)

-- one entry after n commits, with the parts of checkpoints or with commits alone
abbrev pub entry_redone : Bool → ℕ → Entry → Rows → Rows
entry_redone with_parts n (Header header) rows = rows
entry_redone with_parts n (Group commits) rows = records_redone n commits.records rows
entry_redone with_parts n (Listed part) rows = if with_parts then pairs_redone part.rows rows else rows
entry_redone with_parts n (Sealed count) rows = rows
entry_redone with_parts n (Closed number) rows = rows

-- how many commits there are after entries that follow n commits
abbrev pub number_after : ℕ → List Entry → ℕ
number_after n entries = n + length (records_in entries)

-- entries after n commits, in their order
abbrev pub entries_redone : Bool → ℕ → List Entry → Rows → Rows
entries_redone with_parts n [] rows = rows
entries_redone with_parts n (entry ∷ entries) rows =
    entries_redone with_parts (number_after n (entry ∷ [])) entries (entry_redone with_parts n entry rows)

-- the entry says that the parts before it have all rows
abbrev pub is_seal : Entry → Bool
is_seal (Header header) = false
is_seal (Group commits) = false
is_seal (Listed part) = false
is_seal (Sealed count) = true
is_seal (Closed number) = false
