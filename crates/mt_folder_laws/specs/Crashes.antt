-- What is read of the two files of a folder after a crash. An index of C columns has made these changes.
use Rattle.std.specs.Prelude.{◌≡◌, ◌⊎◌, ◌<◌, ◌≤◌, ℕ, false, List, Option, length, take, IsTrue}
use Rattle.std.specs.List.{list_any}
use Rattle.std.specs.FinMap.{empty}
use Rattle.mt_types.specs.Rows.{after}
use Rattle.mt_types.specs.declared.row.Change.{Change}
use Rattle.mt_frame.specs.declared.entry.Entry.{Entry}
use Rattle.mt_frame.specs.declared.entry.LogHeader.{LogHeader}
use Rattle.mt_replay.specs.Redo.{is_seal, number_after}
use Rattle.mt_replay.specs.RedoLaws.{HaveCommits}
use Rattle.mt_folder.specs.declared.log.LogRead.{LogRead}
use Rattle.mt_folder.specs.declared.reading.RowsRead.{RowsRead}
use Rattle.mt_folder.specs.declared.source.Source.{Source}
use Rattle.mt_folder.specs.Files.{AreRows, Says}
use Rattle.mt_folder.specs.Logs.{is_whole, last_number, rows_left}

-- these rows are read of the two files, either of which may have the newer log
abbrev pub AreRead : ℕ → List ℕ → List ℕ → RowsRead → Type 0
AreRead C bytes others read =
    (source : Option Source) × (AreRows C bytes others source read ⊎ AreRows C others bytes source read)

-- THESE ARE THE ROWS AFTER THE FIRST COMMITS, all those that were durable among them
pub record AreFirst (C : ℕ) (changes : List Change) (durable : ℕ) (read : RowsRead) : Type 0 where
  pub enough : durable ≤ read.commits
  pub rows : read.rows ≡ after C (take read.commits changes)

-- the log has the commits that follow those before it, and no seal
pub record IsUnsealed (C : ℕ) (changes : List Change) (header : LogHeader) (entries : List Entry) : Type 0 where
  pub columns : header.columns ≡ C
  pub commits : HaveCommits C changes header.base entries
  pub within : number_after header.base entries ≤ length changes
  pub unsealed : list_any is_seal entries ≡ false

-- A WHOLE LOG that a crash has left so, next to a file without a newer log
abbrev pub SealedLogsSurvive : Type 0
SealedLogsSurvive =
    (C : ℕ) (changes : List Change) (log : LogRead) (left others : List ℕ) (read : RowsRead)
    → Says C left log → IsTrue (is_whole log)
    → rows_left log empty ≡ after C (take (last_number log) changes)
    → ((other : LogRead) → Says C others other → other.header.generation < log.header.generation)
    → AreRead C left others read → AreFirst C changes (last_number log) read
