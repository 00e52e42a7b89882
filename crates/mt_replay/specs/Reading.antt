-- Which entries of a log count when its rows are read: all, but parts of a checkpoint only with the seal after them.
use Rattle.std.specs.Prelude.{◌≡◌, ◌⊎◌, ℕ, zero, suc, Bool, true, false, if◌then◌else◌, List, [], ◌∷◌, take, None}
use Rattle.std.specs.FinMap.{empty}
use Rattle.mt_types.specs.Rows.{after}
use Rattle.mt_types.specs.declared.row.Change.{Change}
use Rattle.mt_frame.specs.declared.entry.Entry.{Entry}
use Rattle.mt_frame.specs.declared.entry.Entry.TheVariants.{Header, Commits as Group, Rows as Listed, Sealed, Closed}
use Rattle.mt_replay.specs.Redo.{entries_redone, number_after}
use Rattle.mt_replay.specs.RedoLaws.{HaveCommits, HadBetween, AllListRows, SomeNames}

-- a seal comes before the log was closed
abbrev pub seals_next : List Entry → Bool
seals_next [] = false
seals_next (Header header ∷ entries) = seals_next entries
seals_next (Group commits ∷ entries) = seals_next entries
seals_next (Listed part ∷ entries) = seals_next entries
seals_next (Sealed count ∷ entries) = true
seals_next (Closed number ∷ entries) = false

-- the entries, without the parts after which no seal comes before the log was closed
abbrev pub counted : List Entry → List Entry
counted [] = []
counted (Header header ∷ entries) = Header header ∷ counted entries
counted (Group commits ∷ entries) = Group commits ∷ counted entries
counted (Listed part ∷ entries) = if seals_next entries then Listed part ∷ counted entries else counted entries
counted (Sealed count ∷ entries) = Sealed count ∷ counted entries
counted (Closed number ∷ entries) = Closed number ∷ counted entries

-- how many entries there are up to the next seal or closed frame, with it; all, if there is none
abbrev pub front_length : List Entry → ℕ
front_length [] = zero
front_length (Header header ∷ entries) = suc (front_length entries)
front_length (Group commits ∷ entries) = suc (front_length entries)
front_length (Listed part ∷ entries) = suc (front_length entries)
front_length (Sealed count ∷ entries) = suc zero
front_length (Closed number ∷ entries) = suc zero

-- A LOG, read from no rows on, makes the rows after its last commit, if those of its parts that count list rows that
-- were their keys' at some time from there to the log's end, and a key that neither they nor a commit name had none at
-- some time from the log's begin to its end. Nothing is asked of the other parts
abbrev pub RowsAreRead : Type 0
RowsAreRead =
    (C : ℕ) (changes : List Change) (b : ℕ) (entries : List Entry)
    → HaveCommits C changes b entries
    → AllListRows C changes b (number_after b entries) (counted entries)
    → ((key : List ℕ) → SomeNames (counted entries) key ⊎ HadBetween C changes b (number_after b entries) key None)
    → entries_redone true b (counted entries) empty ≡ after C (take (number_after b entries) changes)
