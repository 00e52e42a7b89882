-- How a log moves to the other file of its folder.
use Rattle.std.specs.Prelude.{◌≡◌, ◌+◌, ◌-◌, ℕ, nat_le, nat_lt, Bool, true, false, IsTrue, IsFalse, ◌&&◌, if◌then◌else◌, List, [], length, slice_get, Option, Some, None}
use Rattle.std.specs.Option.{option_map, option_or}
use Rattle.mt_folder.specs.declared.opening.Spare.{Spare}
use Rattle.mt_folder.specs.declared.opening.Spare.TheVariants.{Free as FreeSpare, Needed as NeededSpare}
use Rattle.mt_folder_log.specs.declared.checkpoint.Other.{Other}
use Rattle.mt_folder_log.specs.declared.checkpoint.Other.TheVariants.{Free, Needed, Gone}
use Rattle.mt_folder_log.specs.declared.checkpoint.Round.{Round}
use Rattle.mt_folder_log.specs.declared.checkpoint.Round.TheVariants.{Rests, Moves, Copies, Seals}
use Rattle.mt_frame.specs.declared.entry.LogHeader.{LogHeader}
use Rattle.mt_frame.specs.declared.entry.Part.{Part}
use Rattle.mt_journal.specs.declared.error.JournalError.{JournalError}
use Rattle.mt_journal.specs.declared.error.JournalError.TheVariants.{Disk, DiskFull, GivenUp, NoMemory, TooLong}
use Rattle.mt_journal.specs.declared.position.Position.{Position}
use Rattle.sqlite_disk.specs.Disk.{MoreFaults}
use Rattle.sqlite_disk.specs.Refusal.{is_no_room}

-- the header of the log that continues a log at this position
abbrev pub continued : ℕ → Position → LogHeader
continued columns at = record { columns = columns; generation = at.generation + 1; base = at.newest; run = 0 }

-- the key from which on the next rows are to be copied
abbrev pub start_of : {D : Type 0} → Other D → List ℕ
start_of (Free disk most) = []
start_of (Needed disk None copied has_all) = []
start_of (Needed disk (Some last) copied has_all) = last
start_of Gone = []

-- the other file, unless it has failed
abbrev pub disk_of : {D : Type 0} → Other D → Option D
disk_of (Free disk most) = Some disk
disk_of (Needed disk last copied has_all) = Some disk
disk_of Gone = None

-- the error of a call that can be made again, if the disk only had no room
abbrev pub full_as_such : JournalError → JournalError
full_as_such (Disk error) = if is_no_room error then DiskFull else Disk error
full_as_such error = error

-- THE CAUSE of an error of a call that writes an entry and syncs: `asks` is that the log might ask its disk, `long` that there is no
-- place for the entry, `old` and `new` are how many calls of the disk had failed
abbrev pub MayFail : JournalError → Bool → Type 0 → ℕ → ℕ → Type 0
MayFail GivenUp asks long old new = IsFalse asks
MayFail TooLong asks long old new = long
MayFail NoMemory asks long old new = IsTrue asks × (new ≡ old)
MayFail DiskFull asks long old new = MoreFaults old new
MayFail (Disk error) asks long old new = MoreFaults old new
MayFail _ asks long old new = ⊥

-- the log may move to the other file
abbrev pub IfFree : {D : Type 0} → Other D → Type 0 → Type 0
IfFree (Free disk most) P = P
IfFree (Needed disk last copied has_all) P = Unit {0}
IfFree Gone P = Unit {0}

-- a checkpoint is in progress, of which this number of rows was copied
abbrev pub IfNeeded : {D : Type 0} → Other D → (ℕ → Type 0) → Type 0
IfNeeded (Free disk most) P = Unit {0}
IfNeeded (Needed disk last copied has_all) P = P copied
IfNeeded Gone P = Unit {0}

-- the log before is needed, and this is so of its file
abbrev pub Needs : {D : Type 0} → Other D → (D → Type 0) → Type 0
Needs (Free disk most) P = ⊥
Needs (Needed disk last copied has_all) P = P disk
Needs Gone P = ⊥

-- the file before is free
abbrev pub IsFree : {D : Type 0} → Other D → Type 0
IsFree (Free disk most) = Unit {0}
IsFree (Needed disk last copied has_all) = ⊥
IsFree Gone = ⊥

-- the log has all rows, and may move to this file
abbrev pub MayMoveTo : {D : Type 0} → D → Other D → Type 0
MayMoveTo file (Free disk most) = disk ≡ file
MayMoveTo file (Needed disk last copied has_all) = ⊥
MayMoveTo file Gone = ⊥

-- how a log in use takes over the spare file of the one that was opened: it may move there, or no row of it was copied yet
abbrev pub IsOfSpare : {D : Type 0} → Spare D → Other D → Type 0
IsOfSpare (FreeSpare disk size) other = MayMoveTo disk other
IsOfSpare (NeededSpare disk) other = other ≡ Needed disk None 0 false

-- no read of this file has returned a wrong byte
abbrev pub IsClean : {D : Type 0} → (D → Bool) → Other D → Type 0
IsClean is_clean (Free disk most) = IsTrue (is_clean disk)
IsClean is_clean (Needed disk last copied has_all) = IsTrue (is_clean disk)
IsClean is_clean Gone = Unit {0}

-- WHAT A CHECKPOINT NEEDS NEXT: of a log at this position, `least` bytes are worth one
abbrev pub round_of : {D : Type 0} → ℕ → Position → Other D → Round
round_of least at (Free disk most) = if nat_lt 0 least && nat_lt 0 at.newest && nat_le most at.end then Moves else Rests
round_of least at (Needed disk last copied true) = Seals
round_of least at (Needed disk last copied false) = Copies
round_of least at Gone = Rests

-- the key of the last row of a part
abbrev pub end_of : Part → Option (List ℕ)
end_of part = option_map (λ pair. pair.0) (slice_get part.rows (length part.rows - 1))

-- WHAT WAS COPIED after a part that ends with this key: the next one begins there, and all rows were if the part wasn't full
abbrev pub IsAfter : {D : Type 0} → Option (List ℕ) → Bool → Other D → Other D → Type 0
IsAfter end is_last (Free disk most) other = other ≡ Free disk most
IsAfter end is_last (Needed disk last copied has_all) other = (count : ℕ) × (other ≡ Needed disk (option_or end last) count is_last)
IsAfter end is_last Gone other = other ≡ Gone
