-- What is cut off the logs of a folder, and what is left.
use Rattle.std.specs.Prelude.{◌≡◌, ◌⊎◌, ◌≤◌, ◌-◌, ◌++◌, ◌==◌, ℕ, not, max, List, length, take, drop, replicate, count_by, Option, Some, None, IsSome, IfSome}
use Rattle.mt_frame.specs.declared.entry.Entry.{Entry}
use Rattle.mt_frame.specs.declared.entry.LogHeader.{LogHeader}
use Rattle.mt_journal.specs.declared.error.Damage.{Damage}
use Rattle.mt_journal.specs.declared.error.JournalError.TheVariants.{Damaged, NoLog}
use Rattle.mt_journal.specs.declared.position.Position.{Position}
use Rattle.mt_journal.specs.Recovery.{HasReadAll}
use Rattle.mt_journal.specs.Refusing.{LogFails}
use Rattle.mt_folder.specs.declared.error.LogFile.{LogFile}
use Rattle.mt_folder.specs.declared.error.LogFile.TheVariants.{Even, Odd}
use Rattle.mt_folder.specs.declared.opening.OpenedLog.{OpenedLog}
use Rattle.mt_folder.specs.declared.reading.RowsRead.{RowsRead}
use Rattle.mt_folder.specs.declared.source.Source.{Source}
use Rattle.mt_folder.specs.Files.{AreRows}
use Rattle.sqlite_disk.specs.declared.memory.Memory.{Memory}
use Rattle.mtfolder.specs.declared.copies.FolderCopy.{FolderCopy}
use Rattle.mtfolder.specs.declared.cutting.Cut.{Cut}
use Rattle.mtfolder.specs.declared.cutting.Cuts.{Cuts}
use Rattle.mtfolder.specs.declared.cutting.Plan.{Plan}
use Rattle.mtfolder.specs.declared.faults.CutError.{CutError}
use Rattle.mtfolder.specs.declared.faults.CutError.TheVariants.{Refused, Unfinished}

-- the bytes with zeros from a place on, one at least
abbrev pub zeroed : ℕ → List ℕ → List ℕ
zeroed from bytes = take from bytes ++ replicate (max 1 (length bytes - from)) 0

-- WHAT IS LEFT of the bytes of a file
abbrev pub left_of : Option Cut → List ℕ → List ℕ
left_of None bytes = bytes
left_of (Some cut) bytes = zeroed cut.from bytes

-- how many bytes aren't zero
abbrev pub nonzero : List ℕ → ℕ
nonzero bytes = count_by (λ byte. not (byte == 0)) bytes

abbrev pub bytes_in : LogFile → FolderCopy → List ℕ
bytes_in Even folder = folder.even.items
bytes_in Odd folder = folder.odd.items

-- the cut of the other file
abbrev pub cut_beside : LogFile → Cuts → Option Cut
cut_beside Even cuts = cuts.odd
cut_beside Odd cuts = cuts.even

-- A LOG OF C COLUMNS CAN BE READ UP TO HERE, and no further: it ends, or is damaged, or has no header
pub data ReadsTo (C : ℕ) (bytes : List ℕ) (end : ℕ) : Type 0 where
  ended : (header : LogHeader) (entries : List Entry) (at : Position) → HasReadAll header entries at bytes → end ≡ at.end → ReadsTo C bytes end
  damaged : (damage : Damage) → LogFails C bytes (Damaged end damage) → ReadsTo C bytes end
  headless : LogFails C bytes NoLog → end ≡ 0 → ReadsTo C bytes end

-- a file with these bytes may be cut here: its log can be read no further; or all of it is cut, and the other file is cut too
pub record IsPlace (bytes : List ℕ) (other : Option Cut) (from : ℕ) : Type 0 where
  pub within : from ≤ length bytes
  pub why : ((C : ℕ) × ReadsTo C bytes from) ⊎ ((from ≡ 0) × IsSome other)

-- this is a cut of a file with these bytes
pub record IsCut (bytes : List ℕ) (other : Option Cut) (cut : Cut) : Type 0 where
  pub place : IsPlace bytes other cut.from
  pub gone : cut.gone ≡ nonzero (drop cut.from bytes)

-- these are cuts of two files with these bytes
pub record AreCuts (even odd : List ℕ) (cuts : Cuts) : Type 0 where
  pub of_even : IfSome cuts.even (IsCut even cuts.odd)
  pub of_odd : IfSome cuts.odd (IsCut odd cuts.even)

-- a server that opens files with these bytes finds these rows, by this source
pub record Finds (even odd : List ℕ) (source : Option Source) (read : RowsRead) : Type 0 where
  pub C : ℕ
  pub rows : AreRows C even odd source read ⊎ AreRows C odd even source read

-- something is cut
abbrev pub CutsSome : Cuts → Type 0
CutsSome cuts = IsSome cuts.even ⊎ IsSome cuts.odd

-- THIS IS CUT OFF two files with these bytes, and a server finds these rows in the logs that are left
pub record IsPlan (even odd : List ℕ) (plan : Plan) : Type 0 where
  pub some : CutsSome plan.cuts
  pub cuts : AreCuts even odd plan.cuts
  pub left_even : plan.left.even.items ≡ left_of plan.cuts.even even
  pub left_odd : plan.left.odd.items ≡ left_of plan.cuts.odd odd
  pub source : Option Source
  pub has_log : IsSome source
  pub finds : Finds plan.left.even.items plan.left.odd.items source plan.read

-- it is made of these cuts, which leave these files, and of what was opened of these
pub record IsPlanOf (cuts : Cuts) (left : FolderCopy) (opened : OpenedLog Memory) (plan : Plan) : Type 0 where
  pub plan_is : plan ≡ record { cuts = cuts; left = left; read = opened.read }
  pub some : CutsSome cuts
  pub has_log : IsSome opened.source

-- the cut is within what is left of a file
abbrev pub FitsIn : Option Cut → List ℕ → Type 0
FitsIn None left = Unit {0}
FitsIn (Some cut) left = cut.from ≤ length left

pub record Fits (plan : Plan) : Type 0 where
  pub even : FitsIn plan.cuts.even plan.left.even.items
  pub odd : FitsIn plan.cuts.odd plan.left.odd.items

-- the cut leaves this of a file that has these bytes
pub record Leaves (cut : Option Cut) (bytes left : List ℕ) : Type 0 where
  pub within : FitsIn cut bytes
  pub left_is : left ≡ left_of cut bytes

-- THE CUTS WERE MADE: the files have what the plan leaves of the old bytes
pub record IsMade (old_even old_odd even odd : List ℕ) (plan : Plan) : Type 0 where
  pub is_plan : IsPlan old_even old_odd plan
  pub even_is : even ≡ plan.left.even.items
  pub odd_is : odd ≡ plan.left.odd.items

-- this holds if the cuts were refused
abbrev pub OnRefused : CutError → Type 0 → Type 0
OnRefused (Refused why) P = P
OnRefused (Unfinished error) P = Unit {0}
