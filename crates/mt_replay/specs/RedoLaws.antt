-- What a log makes when it is done again: the rows after its last commit.
use Rattle.std.specs.Prelude.{◌≡◌, ◌≤◌, ◌-◌, ◌⊎◌, ℕ, true, false, List, [], ◌∷◌, map, take, drop, Option, Some, None}
use Rattle.std.specs.List.{AllByRecursion, Contains}
use Rattle.std.specs.FinMap.{get, empty}
use Rattle.mt_types.specs.Rows.{after}
use Rattle.mt_types.specs.declared.row.Change.{Change}
use Rattle.mt_types.specs.declared.row.Row.{Row}
use Rattle.mt_frame.specs.declared.entry.Entry.{Entry}
use Rattle.mt_frame.specs.declared.entry.Entry.TheVariants.{Header, Commits as Group, Rows as Listed, Sealed, Closed}
use Rattle.mt_frame.specs.declared.entry.Record.{Record}
use Rattle.mt_frame.specs.declared.entry.Record.TheVariants.{Row as RowOf, Removed}
use Rattle.mt_replay.specs.Replay.{records_in, records_of}
use Rattle.mt_replay.specs.Redo.{entries_redone, number_after}

-- the entries have the commits that follow the first b of these changes of an index of C columns, and no others
abbrev pub HaveCommits : ℕ → List Change → ℕ → List Entry → Type 0
HaveCommits C changes b entries =
    records_in entries ≡ take (number_after b entries - b) (drop b (records_of C changes))

-- the key had this row, or none, after one of the commits from number n to number m
abbrev pub HadBetween : ℕ → List Change → ℕ → ℕ → List ℕ → Option Row → Type 0
HadBetween C changes n m key row =
    (j : ℕ) × (n ≤ j) × (j ≤ m) × (get (after C (take j changes)) key ≡ row)

-- each row that the entry lists, if it is a part, was its key's after one of the commits from number n to number m. The
-- entry follows n commits
abbrev pub ListsRows : ℕ → List Change → ℕ → ℕ → Entry → Type 0
ListsRows C changes n m (Header header) = Unit {0}
ListsRows C changes n m (Group commits) = Unit {0}
ListsRows C changes n m (Listed part) = AllByRecursion (λ pair. HadBetween C changes n m pair.0 (Some pair.1)) part.rows
ListsRows C changes n m (Sealed count) = Unit {0}
ListsRows C changes n m (Closed number) = Unit {0}

-- the same of each of the entries, the first of which follows n commits
abbrev pub AllListRows : ℕ → List Change → ℕ → ℕ → List Entry → Type 0
AllListRows C changes n m [] = Unit {0}
AllListRows C changes n m (entry ∷ entries) =
    ListsRows C changes n m entry × AllListRows C changes (number_after n (entry ∷ [])) m entries

-- of which key a commit is
abbrev pub key_left : Record → List ℕ
key_left (RowOf key columns) = key
key_left (Removed key) = key

-- the entry has a commit of the key, or lists a row of it
abbrev pub Names : Entry → List ℕ → Type 0
Names (Header header) key = ⊥
Names (Group commits) key = Contains (map key_left commits.records) key
Names (Listed part) key = Contains (map (λ pair. pair.0) part.rows) key
Names (Sealed count) key = ⊥
Names (Closed number) key = ⊥

-- one of the entries does
abbrev pub SomeNames : List Entry → List ℕ → Type 0
SomeNames [] key = ⊥
SomeNames (entry ∷ entries) key = Names entry key ⊎ SomeNames entries key

-- A LOG WITH PARTS OF ALL KEYS, done again from no rows on, makes the rows after its last commit: each row that a part
-- lists was its key's at some time from there to the log's end, and a key that the log doesn't name had none at some
-- time from the log's begin to its end
abbrev pub RowsAreRedone : Type 0
RowsAreRedone =
    (C : ℕ) (changes : List Change) (b : ℕ) (entries : List Entry)
    → HaveCommits C changes b entries
    → AllListRows C changes b (number_after b entries) entries
    → ((key : List ℕ) → SomeNames entries key ⊎ HadBetween C changes b (number_after b entries) key None)
    → entries_redone true b entries empty ≡ after C (take (number_after b entries) changes)

-- THE COMMITS OF A LOG, done again on the rows before it, make the rows after its last commit
abbrev pub CommitsAreRedone : Type 0
CommitsAreRedone =
    (C : ℕ) (changes : List Change) (b : ℕ) (entries : List Entry)
    → HaveCommits C changes b entries
    → entries_redone false b entries (after C (take b changes)) ≡ after C (take (number_after b entries) changes)
