-- What the journal of an opened log keeps: the log that was read, whose entries leave the rows that were read.
use Rattle.std.specs.Prelude.{◌≡◌, ℕ, true, List, [], ◌∷◌, ◌++◌, Option, Some, None, IfNone, IsTrue}
use Rattle.std.specs.FinMap.{empty}
use Rattle.mt_types.specs.Rows.{Rows}
use Rattle.mt_frame.specs.declared.entry.Entry.{Entry}
use Rattle.mt_frame.specs.declared.entry.Entry.TheVariants.{Closed}
use Rattle.mt_frame.specs.declared.entry.LogHeader.{LogHeader}
use Rattle.mt_journal.specs.Keeping.{AllAreLogs, Keeps}
use Rattle.mt_replay.specs.Reading.{counted}
use Rattle.mt_replay.specs.Redo.{entries_redone}
use Rattle.mt_folder.specs.declared.log.LogRead.{LogRead}
use Rattle.mt_folder.specs.declared.opening.OpenedLog.{OpenedLog}
use Rattle.mt_folder.specs.declared.opening.Spare.{Spare}
use Rattle.mt_folder.specs.declared.opening.Spare.TheVariants.{Free, Needed}
use Rattle.mt_folder.specs.declared.source.Source.{Source}
use Rattle.mt_folder.specs.declared.source.Source.TheVariants.{Newer, Older, Both, Neither}
use Rattle.mt_folder.specs.Files.{AreRows, Says}
use Rattle.mt_folder.specs.Logs.{is_whole, last_number, rows_left}
use Rattle.mt_folder.specs.Spares.{disk_of}

-- the rows that entries after this header leave, on those before
abbrev pub rows_after : LogHeader → List Entry → Rows → Rows
rows_after header entries before = entries_redone true header.base (counted entries) before

-- the same, on those of a log that it continues
pub record AreOnOlder (header : LogHeader) (entries : List Entry) (rows : Rows) : Type 0 where
  pub older : LogRead
  pub whole : IsTrue (is_whole older)
  pub base : header.base ≡ last_number older
  pub rows_are : rows ≡ rows_after header entries (rows_left older empty)

-- the entries leave these rows, on those of the log before if the spare file is needed
abbrev pub LeavesRows : {D : Type 0} → Spare D → LogHeader → List Entry → Rows → Type 0
LeavesRows (Free disk size) header entries rows = rows ≡ rows_after header entries empty
LeavesRows (Needed disk) header entries rows = AreOnOlder header entries rows

-- THE LOG IN USE has entries that leave the rows
pub record KeepsRows {D : Type 0} (seen : D → List ℕ) (may_leave : D → List ℕ → Type 0) (opened : OpenedLog D) : Type 0 where
  pub header : LogHeader
  pub entries : List Entry
  pub keeps : Keeps opened.journal.at (seen opened.journal.disk) (may_leave opened.journal.disk) header entries
  pub leaves : LeavesRows opened.spare header entries opened.read.rows

-- IF NEITHER FILE HAD A LOG, the journal has the first one of an index of C columns, without entries
abbrev pub BeginsLog : {D : Type 0} → ℕ → (D → List ℕ) → (D → List ℕ → Type 0) → OpenedLog D → Type 0
BeginsLog C seen may_leave opened = IfNone opened.source
    (Keeps opened.journal.at (seen opened.journal.disk) (may_leave opened.journal.disk)
    (record { columns = C; generation = 0; base = 0; run = 0 }) [])

-- the log in use is this one, and no crash undoes an entry that was read
pub record KeepsLog {D : Type 0} (seen : D → List ℕ) (may_leave : D → List ℕ → Type 0) (log : LogRead) (opened : OpenedLog D) : Type 0 where
  pub keeps : Keeps opened.journal.at (seen opened.journal.disk) (may_leave opened.journal.disk) log.header log.entries.items
  pub all : AllAreLogs log.header log.entries.items (may_leave opened.journal.disk)

-- the log in use is the newer one, closed, so that what was copied there doesn't count; no crash undoes an entry of the older one
pub record KeepsBoth {D : Type 0} (seen : D → List ℕ) (may_leave : D → List ℕ → Type 0) (newer older : LogRead) (opened : OpenedLog D) : Type 0 where
  pub number : ℕ
  pub keeps : Keeps opened.journal.at (seen opened.journal.disk) (may_leave opened.journal.disk) newer.header
      (newer.entries.items ++ Closed number ∷ [])
  pub stays : AllAreLogs older.header older.entries.items (may_leave (disk_of opened.spare))

-- the log in use is of these two logs, by this source
abbrev pub KeepsSource : {D : Type 0} → (D → List ℕ) → (D → List ℕ → Type 0) → LogRead → LogRead → Option Source → OpenedLog D → Type 0
KeepsSource seen may_leave newer older (Some Newer) opened = KeepsLog seen may_leave newer opened
KeepsSource seen may_leave newer older (Some Older) opened = KeepsLog seen may_leave older opened
KeepsSource seen may_leave newer older (Some Both) opened = KeepsBoth seen may_leave newer older opened
KeepsSource seen may_leave newer older (Some Neither) opened = ⊥
KeepsSource seen may_leave newer older None opened = ⊥

-- THE LOG IN USE IS THE ONE THAT WAS READ, by this source, of files whose newer log and other one have these bytes
abbrev pub KeepsLogs : {D : Type 0} → ℕ → (D → List ℕ) → (D → List ℕ → Type 0) → List ℕ → List ℕ → Option Source → OpenedLog D → Type 0
KeepsLogs C seen may_leave bytes others (Some Newer) opened = (log : LogRead) × Says C bytes log × KeepsLog seen may_leave log opened
KeepsLogs C seen may_leave bytes others (Some Older) opened = (log : LogRead) × Says C others log × KeepsLog seen may_leave log opened
KeepsLogs C seen may_leave bytes others (Some Both) opened =
    (newer : LogRead) × (older : LogRead) × Says C bytes newer × Says C others older × KeepsBoth seen may_leave newer older opened
KeepsLogs C seen may_leave bytes others (Some Neither) opened = ⊥
KeepsLogs C seen may_leave bytes others None opened = Unit {0}

-- the rows of these two files, of which the first has the newer log, were read, and the log in use is the one that was read
abbrev pub IsOpened : {D : Type 0} → ℕ → (D → List ℕ) → (D → List ℕ → Type 0) → List ℕ → List ℕ → OpenedLog D → Type 0
IsOpened C seen may_leave bytes others opened =
    AreRows C bytes others opened.source opened.read × KeepsLogs C seen may_leave bytes others opened.source opened
