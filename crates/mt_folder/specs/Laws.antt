-- Laws of the logs of a folder, each of them proved as a clause of a function of src/laws.rt. An index of C columns has made
-- these changes.
use Rattle.std.specs.Prelude.{◌≡◌, ◌⊎◌, ℕ, false, List, None, take, IsTrue}
use Rattle.std.specs.List.{list_any}
use Rattle.std.specs.FinMap.{empty}
use Rattle.mt_types.specs.Rows.{after}
use Rattle.mt_types.specs.declared.row.Change.{Change}
use Rattle.mt_replay.specs.Redo.{is_seal}
use Rattle.mt_replay.specs.RedoLaws.{HaveCommits, HadBetween, AllListRows, SomeNames}
use Rattle.mt_replay.specs.Reading.{counted}
use Rattle.mt_folder.specs.declared.log.LogRead.{LogRead}
use Rattle.mt_folder.specs.Logs.{is_whole, last_number, rows_left, Continues}

-- the log has the commits that follow those before it, and no others
abbrev pub HasCommits : ℕ → List Change → LogRead → Type 0
HasCommits C changes log = HaveCommits C changes log.header.base log.entries.items

-- the parts of the log that count list rows that were their keys' at some time from there to its end, and a key that neither
-- they nor a commit name had none at some time of the log
pub record ListsRows (C : ℕ) (changes : List Change) (log : LogRead) : Type 0 where
  pub listed : AllListRows C changes log.header.base (last_number log) (counted log.entries.items)
  pub others : (key : List ℕ) → SomeNames (counted log.entries.items) key
      ⊎ HadBetween C changes log.header.base (last_number log) key None

-- A LOG FROM THE FIRST COMMIT ON, without a seal, leaves the rows after its last commit, whatever it lists
abbrev pub FirstLogsHaveTheRows : Type 0
FirstLogsHaveTheRows =
    (C : ℕ) (changes : List Change) (log : LogRead)
    → log.header.base ≡ 0 → list_any is_seal log.entries.items ≡ false → HasCommits C changes log
    → rows_left log empty ≡ after C (take (last_number log) changes)

-- A LOG THAT LISTS ALL ROWS leaves the rows after its last commit
abbrev pub ListingLogsHaveTheRows : Type 0
ListingLogsHaveTheRows =
    (C : ℕ) (changes : List Change) (log : LogRead)
    → HasCommits C changes log → ListsRows C changes log
    → rows_left log empty ≡ after C (take (last_number log) changes)

-- A LOG THAT CONTINUES ANOTHER ONE, and is not whole, leaves the rows after its last commit, on those of the other one,
-- whatever it lists
abbrev pub LaterLogsHaveTheRows : Type 0
LaterLogsHaveTheRows =
    (C : ℕ) (changes : List Change) (newer older : LogRead)
    → Continues newer older → (IsTrue (is_whole newer) → ⊥) → HasCommits C changes newer
    → rows_left older empty ≡ after C (take (last_number older) changes)
    → rows_left newer (rows_left older empty) ≡ after C (take (last_number newer) changes)
