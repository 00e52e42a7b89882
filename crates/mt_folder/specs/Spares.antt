-- The file that the current log isn't in, and whether it still has rows that are needed.
use Rattle.std.specs.Prelude.{◌≡◌, ◌↔◌, Bool, true, false, IsTrue, Option, Some}
use Rattle.mt_folder.specs.declared.opening.OpenedLog.{OpenedLog}
use Rattle.mt_folder.specs.declared.opening.Spare.{Spare}
use Rattle.mt_folder.specs.declared.opening.Spare.TheVariants.{Free, Needed}
use Rattle.mt_folder.specs.declared.source.Source.{Source}
use Rattle.mt_folder.specs.declared.source.Source.TheVariants.{Both}

abbrev pub is_needed : {D : Type 0} → Spare D → Bool
is_needed (Free disk size) = false
is_needed (Needed disk) = true

-- it is if the rows are of both logs, and only then
abbrev pub IsSpareOf : {D : Type 0} → Option Source → Spare D → Type 0
IsSpareOf source spare = IsTrue (is_needed spare) ↔ (source ≡ Some Both)

-- the disk of that file
abbrev pub disk_of : {D : Type 0} → Spare D → D
disk_of (Free disk size) = disk
disk_of (Needed disk) = disk

-- no read of the files of an opened log has returned a wrong byte
abbrev pub AreClean : {D : Type 0} → (D → Bool) → OpenedLog D → Type 0
AreClean is_clean opened = IsTrue (is_clean opened.journal.disk) × IsTrue (is_clean (disk_of opened.spare))
