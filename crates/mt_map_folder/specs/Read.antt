-- The rows of a folder, and of the log that continues.
use Rattle.std.specs.Prelude.{◌≡◌, ◌⊎◌, ℕ, Bool, List, Option, IsTrue}
use Rattle.std.specs.FinMap.{empty}
use Rattle.mt_types.specs.Rows.{Rows}
use Rattle.mt_frame.specs.declared.entry.Entry.{Entry}
use Rattle.mt_frame.specs.declared.entry.LogHeader.{LogHeader}
use Rattle.mt_journal.specs.Keeping.{Keeps}
use Rattle.mt_folder.specs.declared.reading.RowsRead.{RowsRead}
use Rattle.mt_folder.specs.declared.source.Source.{Source}
use Rattle.mt_folder.specs.Files.{AreRows}
use Rattle.mt_folder.specs.Kept.{rows_after, AreOnOlder}
use Rattle.mt_folder_log.specs.declared.checkpoint.Other.{Other}
use Rattle.mt_folder_log.specs.declared.checkpoint.Other.TheVariants.{Free, Needed, Gone}
use Rattle.mt_folder_log.specs.Moving.{IsClean}
use Rattle.mt_map_folder.specs.declared.log.MapLog.{MapLog}

-- no read of the two files has returned a wrong byte
abbrev pub AreClean : {D : Type 0} → (D → Bool) → MapLog D → Type 0
AreClean is_clean log = IsTrue (is_clean log.log.journal.disk) × IsClean is_clean log.log.other

-- these are the rows that the two files leave, of which either may have the newer log
abbrev pub IsReadFrom : ℕ → List ℕ → List ℕ → RowsRead → Type 0
IsReadFrom columns even odd read =
    (source : Option Source) × (AreRows columns even odd source read ⊎ AreRows columns odd even source read)

-- the entries leave these rows, on those of the log before if the other file is needed
abbrev pub LeavesRows : {D : Type 0} → Other D → LogHeader → List Entry → Rows → Type 0
LeavesRows (Free disk most) header entries rows = rows ≡ rows_after header entries empty
LeavesRows (Needed disk last copied has_all) header entries rows = AreOnOlder header entries rows
LeavesRows Gone header entries rows = ⊥

-- THE LOG IN USE has entries that leave these rows
pub record KeepsRows {D : Type 0} (seen : D → List ℕ) (may_leave : D → List ℕ → Type 0) (log : MapLog D) (rows : Rows) : Type 0 where
  pub header : LogHeader
  pub entries : List Entry
  pub keeps : Keeps log.log.journal.at (seen log.log.journal.disk) (may_leave log.log.journal.disk) header entries
  pub leaves : LeavesRows log.log.other header entries rows
