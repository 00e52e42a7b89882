-- Which of two logs of a folder have its rows, and which rows these are.
use Rattle.std.specs.Prelude.{◌≡◌, ℕ, ◌+◌, ◌<◌, Bool, true, ◌||◌, ◌==◌, IsTrue, Option, Some, None}
use Rattle.std.specs.List.{list_any}
use Rattle.std.specs.FinMap.{empty}
use Rattle.mt_types.specs.Rows.{Rows}
use Rattle.mt_replay.specs.Redo.{entries_redone, is_seal, number_after}
use Rattle.mt_replay.specs.Reading.{counted}
use Rattle.mt_folder.specs.declared.log.LogRead.{LogRead}
use Rattle.mt_folder.specs.declared.reading.RowsRead.{RowsRead}
use Rattle.mt_folder.specs.declared.source.Source.{Source}
use Rattle.mt_folder.specs.declared.source.Source.TheVariants.{Newer, Older, Both, Neither}

-- the log begins with the first commit, or has a seal: it has all rows
abbrev pub is_whole : LogRead → Bool
is_whole log = (log.header.base == 0) || list_any is_seal log.entries.items

-- the number of the last commit of the log, or of the last one before it
abbrev pub last_number : LogRead → ℕ
last_number log = number_after log.header.base log.entries.items

-- THE NEWER LOG CONTINUES THE OLDER ONE, which has all rows
pub record Continues (newer older : LogRead) : Type 0 where
  pub whole : IsTrue (is_whole older)
  pub base : newer.header.base ≡ last_number older
  pub generation : newer.header.generation ≡ older.header.generation + 1

-- the newer log was made and never used: it has no commits, and the older one has some after it
pub record IsUnused (newer older : LogRead) : Type 0 where
  pub whole : IsTrue (is_whole older)
  pub none : last_number newer ≡ newer.header.base
  pub more : newer.header.base < last_number older

-- WHICH LOGS HAVE THE ROWS
abbrev pub Decides : LogRead → LogRead → Source → Type 0
Decides newer older Newer = IsTrue (is_whole newer)
Decides newer older Older = (IsTrue (is_whole newer) → ⊥) × IsUnused newer older
Decides newer older Both = (IsTrue (is_whole newer) → ⊥) × (IsUnused newer older → ⊥) × Continues newer older
Decides newer older Neither = (IsTrue (is_whole newer) → ⊥) × (IsUnused newer older → ⊥) × (Continues newer older → ⊥)

-- the rows that a log leaves, on those before it
abbrev pub rows_left : LogRead → Rows → Rows
rows_left log before = entries_redone true log.header.base (counted log.entries.items) before

-- these are the rows that a log leaves, on none, and the number of its last commit
pub record HasRows (log : LogRead) (read : RowsRead) : Type 0 where
  pub rows : read.rows ≡ rows_left log empty
  pub commits : read.commits ≡ last_number log

-- these are the rows that the newer log leaves on those of the older one, and the number of its last commit
pub record HasRowsOfBoth (newer older : LogRead) (read : RowsRead) : Type 0 where
  pub rows : read.rows ≡ rows_left newer (rows_left older empty)
  pub commits : read.commits ≡ last_number newer

-- these are the rows of the logs of this source
abbrev pub AreOfSource : LogRead → LogRead → Option Source → RowsRead → Type 0
AreOfSource newer older (Some Newer) read = IsTrue (is_whole newer) × HasRows newer read
AreOfSource newer older (Some Older) read = (IsTrue (is_whole newer) → ⊥) × IsUnused newer older × HasRows older read
AreOfSource newer older (Some Both) read = (IsTrue (is_whole newer) → ⊥) × Continues newer older × HasRowsOfBoth newer older read
AreOfSource newer older (Some Neither) read = ⊥
AreOfSource newer older None read = ⊥
