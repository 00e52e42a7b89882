-- What is so of a log in use, as it was of the one that was opened.
use Rattle.std.proofs.Common.{Bool, List, subst, sym}
use Rattle.std.specs.Prelude.{IsTrue}
use Rattle.mt_folder.specs.declared.opening.Spare.{Spare}
use Rattle.mt_folder.specs.declared.opening.Spare.TheVariants.{Free as FreeSpare, Needed as NeededSpare}
use Rattle.mt_types.specs.Rows.{Rows}
use Rattle.mt_frame.specs.declared.entry.Entry.{Entry}
use Rattle.mt_frame.specs.declared.entry.LogHeader.{LogHeader}
use Rattle.mt_folder.specs.Kept.{LeavesRows as SpareLeaves}
use Rattle.mt_folder.specs.Spares.{disk_of}
use Rattle.mt_folder_log.specs.declared.checkpoint.Other.{Other}
use Rattle.mt_folder_log.specs.declared.checkpoint.Other.TheVariants.{Free, Needed, Gone}
use Rattle.mt_folder_log.specs.Moving.{IsClean, IsOfSpare}
use Rattle.mt_map_folder.specs.Read.{LeavesRows}

-- the other file
pub spare_clean : {D : Type 0} (is_clean : D → Bool) (spare : Spare D) (other : Other D) → IsOfSpare spare other → IsClean is_clean other → IsTrue (is_clean (disk_of spare))
spare_clean is_clean (FreeSpare disk size) (Free file most) is clean = subst (λ it. IsTrue (is_clean it)) is clean
spare_clean is_clean (FreeSpare disk size) (Needed file last copied has_all) is clean = absurd is
spare_clean is_clean (FreeSpare disk size) Gone is clean = absurd is
spare_clean is_clean (NeededSpare disk) other is clean = subst (IsClean is_clean) is clean

-- the rows that it leaves
pub rows_left : {D : Type 0} (spare : Spare D) (other : Other D) (header : LogHeader) (entries : List Entry) (rows : Rows) → IsOfSpare spare other → SpareLeaves spare header entries rows → LeavesRows other header entries rows
rows_left (FreeSpare disk size) (Free file most) header entries rows is leaves = leaves
rows_left (FreeSpare disk size) (Needed file last copied has_all) header entries rows is leaves = absurd is
rows_left (FreeSpare disk size) Gone header entries rows is leaves = absurd is
rows_left (NeededSpare disk) other header entries rows is leaves = subst (λ it. LeavesRows it header entries rows) (sym is) leaves
