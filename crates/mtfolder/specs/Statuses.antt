-- The statuses of runs that fail.
use Rattle.std.specs.Prelude.{ℕ}
use Rattle.mt_journal.specs.declared.error.JournalError.{JournalError}
use Rattle.mt_journal.specs.declared.error.JournalError.TheVariants.{Disk, DiskFull, GivenUp, NoMemory}
use Rattle.mt_folder.specs.declared.error.FolderError.{FolderError}
use Rattle.mt_folder.specs.declared.error.FolderError.TheVariants.{Io, Busy, Journal, Lost, Begins, Refused}
use Rattle.mtfolder.specs.declared.faults.NoCut.{NoCut}
use Rattle.mtfolder.specs.declared.faults.NoCut.TheVariants.{Sound, OtherCommit, Useless, Folder}
use Rattle.mtfolder.specs.declared.faults.CutError.{CutError}
use Rattle.mtfolder.specs.declared.faults.CutError.TheVariants as cuts

-- that of an error of a log
abbrev pub status_of_log : JournalError → ℕ
status_of_log (Disk error) = 3
status_of_log DiskFull = 3
status_of_log GivenUp = 3
status_of_log NoMemory = 3
status_of_log _ = 1

-- 3 if the folder could not be read or memory was refused, 1 if the files are at fault
abbrev pub status_of : FolderError → ℕ
status_of (Io error) = 3
status_of Busy = 3
status_of (Journal file error) = status_of_log error
status_of (Lost file commit place) = 1
status_of (Begins file commit) = 1
status_of (Refused refusal) = 3

-- 4 if another commit would be the last one that is left, 1 if no cut helps or none is needed
abbrev pub status_of_no_cut : NoCut → ℕ
status_of_no_cut Sound = 1
status_of_no_cut (OtherCommit last) = 4
status_of_no_cut Useless = 1
status_of_no_cut (Folder error) = status_of error

-- 3 if a write or a sync failed
abbrev pub status_of_cut : CutError → ℕ
status_of_cut (cuts.Refused why) = status_of_no_cut why
status_of_cut (cuts.Unfinished error) = 3
