-- What each call does with the log that a handle holds, and what it reports.
use Rattle.std.specs.Prelude.{ℕ, ◌≡◌, ◌⊎◌, ◌-◌, Bool, true, false, List, IsTrue, Result, Ok, Err, Option, Some, None, if◌then◌else◌}
use Rattle.std.specs.declared.io.Error.{Error}
use Rattle.sqlite_disk.specs.Refusal.{is_no_room}
use Rattle.mt_types.specs.RefusalNumbers.{refusal_number}
use Rattle.mt_commit.specs.Log.{newest}
use Rattle.mt_folder.specs.declared.error.FolderError.{FolderError}
use Rattle.mt_folder.specs.declared.error.FolderError.TheVariants.{Io, Busy, Journal as OfLog, Lost, Begins, Refused as FolderRefused}
use Rattle.mt_folder.specs.declared.reading.RowsRead.{RowsRead}
use Rattle.mt_index.specs.declared.options.Options.{Options}
use Rattle.mt_journal.specs.declared.error.JournalError.{JournalError}
use Rattle.mt_journal.specs.declared.error.JournalError.TheVariants.{NoMemory, TooLong, DiskFull, Disk, GivenUp}
use Rattle.mt_load.specs.Loaded.{IsLoaded}
use Rattle.mt_load.specs.declared.error.LoadError.{LoadError}
use Rattle.mt_load.specs.declared.error.LoadError.TheVariants.{Refused as LoadRefused, Impossible}
use Rattle.mt_map.specs.Tidies.{MapView}
use Rattle.mt_log_disk.specs.Disks.{log_faults, log_is_clean, log_is_mixing, log_is_usable, log_leaves, log_seen}
use Rattle.mt_map_folder.specs.Promises.{Advances, Syncs, Writes}
use Rattle.mt_map_folder.specs.Read.{AreClean, IsReadFrom, KeepsRows}
use Rattle.mt_map_folder.specs.declared.error.LogError.{LogError}
use Rattle.mt_map_folder.specs.declared.error.LogError.TheVariants.{Refused as LogRefused, Journal as LogFailed}
use Rattle.mt_map_folder.specs.declared.error.OpenError.{OpenError}
use Rattle.mt_map_folder.specs.declared.error.OpenError.TheVariants.{Refused as OpenRefused, Folder, Load}
use Rattle.rowanspan_c.specs.declared.file_log.FileLog.{FileLog}
use Rattle.rowanspan_c.specs.declared.status.TheConstants.{DONE, CLOSED, HELD, FOLDER_FAILED, FOLDER_BUSY, FOLDER_DAMAGED, DISK_FULL, DISK_FAILED}
use Rattle.rowanspan_c.specs.Told.{Tells}

-- ---- statuses
abbrev pub journal_status : JournalError → ℕ
journal_status NoMemory = 1
journal_status TooLong = 14
journal_status DiskFull = DISK_FULL
journal_status _ = DISK_FAILED

abbrev pub log_status : LogError → ℕ
log_status (LogRefused refusal) = refusal_number refusal
log_status (LogFailed error) = journal_status error

-- of a call of a file that fails as a folder is opened
abbrev pub unopened_file_status : Error → ℕ
unopened_file_status error = if is_no_room error then DISK_FULL else FOLDER_FAILED

-- of a log that isn't opened: a disk that fails, or files that are no logs of such an index
abbrev pub unopened_status : JournalError → ℕ
unopened_status NoMemory = 1
unopened_status DiskFull = DISK_FULL
unopened_status (Disk error) = unopened_file_status error
unopened_status GivenUp = FOLDER_FAILED
unopened_status _ = FOLDER_DAMAGED

abbrev pub folder_status : FolderError → ℕ
folder_status (Io error) = unopened_file_status error
folder_status Busy = FOLDER_BUSY
folder_status (OfLog file error) = unopened_status error
folder_status (Lost file commit place) = FOLDER_DAMAGED
folder_status (Begins file commit) = FOLDER_DAMAGED
folder_status (FolderRefused refusal) = refusal_number refusal

abbrev pub load_status : LoadError → ℕ
load_status (LoadRefused refusal) = refusal_number refusal
load_status (Impossible flaw) = FOLDER_DAMAGED

abbrev pub open_status : OpenError → ℕ
open_status (OpenRefused refusal) = refusal_number refusal
open_status (Folder error) = folder_status error
open_status (Load error) = load_status error

abbrev pub log_end : Result (Unit {0}) LogError → ℕ
log_end (Ok u) = DONE
log_end (Err error) = log_status error

-- ---- what comes of it
abbrev pub close_status : Option FileLog → ℕ
close_status None = CLOSED
close_status (Some s) = DONE

-- a number of the log is reported
abbrev pub CountsLog : Option FileLog → (FileLog → ℕ) → ℕ → ℕ → Type 0
CountsLog None count status told = Tells CLOSED 0 status told
CountsLog (Some s) count status told = Tells DONE (count s) status told

abbrev pub TellsSynced : Result ℕ JournalError → ℕ → ℕ → Type 0
TellsSynced (Ok number) status told = Tells DONE number status told
TellsSynced (Err error) status told = Tells (journal_status error) 0 status told

abbrev pub TellsRound : Result Bool LogError → ℕ → ℕ → Type 0
TellsRound (Ok true) status told = Tells DONE 1 status told
TellsRound (Ok false) status told = Tells DONE 0 status told
TellsRound (Err error) status told = Tells (log_status error) 0 status told

-- ALL THAT WAS WRITTEN IS MADE DURABLE, as `MapLog::sync` does it
pub record SyncsFile (s t : FileLog) (status told : ℕ) : Type 0 where
  pub synced : Result ℕ JournalError
  pub syncs : Syncs log_seen log_leaves log_is_usable s.log t.log synced
  pub tells : TellsSynced synced status told

abbrev pub SyncsLog : Option FileLog → Option FileLog → ℕ → ℕ → Type 0
SyncsLog None next status told = (next ≡ None) × Tells CLOSED 0 status told
SyncsLog (Some s) next status told = (t : FileLog) × (next ≡ Some t) × SyncsFile s t status told

-- THE NEXT COMMITS ARE WRITTEN, as `MapLog::write` does it: reported is how many of the index's the log lacks still
pub record WritesFile (m : MapView) (s t : FileLog) (status told : ℕ) : Type 0 where
  pub written : Result (Unit {0}) LogError
  pub writes : Writes log_seen log_leaves log_is_usable log_is_mixing log_faults m.machine s.log t.log written
  pub tells : Tells (log_end written) (newest m.machine.log - t.log.log.journal.at.newest) status told

abbrev pub WritesLog : Option MapView → Option FileLog → Option FileLog → ℕ → ℕ → Type 0
WritesLog None log next status told = (next ≡ log) × Tells CLOSED 0 status told
WritesLog (Some m) None next status told = (next ≡ None) × Tells CLOSED 0 status told
WritesLog (Some m) (Some s) next status told = (t : FileLog) × (next ≡ Some t) × WritesFile m s t status told

-- A ROUND OF A CHECKPOINT IS MADE, as `MapLog::advance` does it: reported is 1 if it has to be continued
pub record AdvancesFile (m : MapView) (begins : Bool) (s t : FileLog) (status told : ℕ) : Type 0 where
  pub advanced : Result Bool LogError
  pub advances : Advances log_seen log_leaves log_is_usable log_is_mixing m.machine begins s.log t.log advanced
  pub tells : TellsRound advanced status told

abbrev pub AdvancesLog : Option MapView → Bool → Option FileLog → Option FileLog → ℕ → ℕ → Type 0
AdvancesLog None begins log next status told = (next ≡ log) × Tells CLOSED 0 status told
AdvancesLog (Some m) begins None next status told = (next ≡ None) × Tells CLOSED 0 status told
AdvancesLog (Some m) begins (Some s) next status told = (t : FileLog) × (next ≡ Some t) × AdvancesFile m begins s t status told

-- THE ROWS OF A FOLDER ARE LOADED, as `mt_map_folder::opening::open` does it: of two files that had these bytes. The log
-- continues after their commits, and has entries that leave the rows
pub record HasRows (options : Options) (m : MapView) (s : FileLog) : Type 0 where
  pub read : RowsRead
  pub loaded : IsLoaded options.columns read.commits read.rows m.machine
  pub tidies : m.tidies ≡ options.tidies
  pub even : List ℕ
  pub odd : List ℕ
  pub are : AreClean log_is_clean s.log → IsReadFrom options.columns even odd read × (s.log.log.journal.at.newest ≡ read.commits)
      × (IsTrue (log_is_mixing s.log.log.journal.disk) → KeepsRows log_seen log_leaves s.log read.rows)

-- it happens if the handles hold none
abbrev pub OpensFolder : Option MapView → Option FileLog → Options → Option MapView → Option FileLog → ℕ → Type 0
OpensFolder None None options index log status =
    ((m : MapView) × (s : FileLog) × (index ≡ Some m) × (log ≡ Some s) × (status ≡ DONE) × HasRows options m s)
    ⊎ ((index ≡ None) × (log ≡ None) × ((error : OpenError) × (status ≡ open_status error)))
OpensFolder None (Some s) options index log status = (index ≡ None) × (log ≡ Some s) × (status ≡ HELD)
OpensFolder (Some m) None options index log status = (index ≡ Some m) × (log ≡ None) × (status ≡ HELD)
OpensFolder (Some m) (Some s) options index log status = (index ≡ Some m) × (log ≡ Some s) × (status ≡ HELD)
