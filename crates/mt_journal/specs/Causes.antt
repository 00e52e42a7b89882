-- Which error of a journal comes when. A disk counts its calls that failed: `old` and `new` are that count, before a call
-- of the journal and after it.
use Rattle.std.specs.Prelude.{◌≡◌, ◌⊎◌, ℕ, ◌+◌, ◌^◌, ◌<◌, ◌≤◌, max, Bool, not, ◌&&◌, IsTrue, IsFalse, MatchBool, List, length, Result, Ok, Err}
use Rattle.sqlite_disk.specs.Disk.{MoreFaults}
use Rattle.sqlite_disk.specs.Refusal.{is_no_room}
use Rattle.mt_frame.specs.declared.entry.Entry.{Entry}
use Rattle.mt_frame.specs.declared.entry.Entry.TheVariants.{Commits as Group}
use Rattle.mt_frame.specs.declared.entry.Record.{Record}
use Rattle.mt_frame.specs.declared.fault.EncodeError.{EncodeError}
use Rattle.mt_frame.specs.declared.fault.EncodeError.TheVariants as encoding
use Rattle.mt_frame.specs.Spelling.{frame_of}
use Rattle.mt_frame.specs.Fits.{HasFrame}
use Rattle.mt_journal.specs.declared.error.JournalError.{JournalError}
use Rattle.mt_journal.specs.declared.error.JournalError.TheVariants.{DiskFull, Disk, GivenUp, TooLong, NoMemory}
use Rattle.mt_journal.specs.declared.journal.TheConstants.{ZEROS_AHEAD}
use Rattle.mt_journal.specs.declared.position.Position.{Position}

-- the journal may ask its disk: it was not given up, and no sync of the disk has failed
abbrev pub may_ask : Bool → Bool → Bool
may_ask is_given_up is_usable = not is_given_up && is_usable

abbrev pub of_encoding : EncodeError → JournalError
of_encoding encoding.TooLong = TooLong
of_encoding encoding.NoMemory = NoMemory

-- the entry of the next commits
abbrev pub next_commits : Position → List Record → Entry
next_commits at records = Group (record { first = at.newest + 1; durable = at.durable; records = records })

-- a frame of n bytes has no place: it doesn't fit before the room, and the places of a file end before further zeros would
abbrev pub LacksPlace : Position → ℕ → Type 0
LacksPlace at n = (at.room ≤ at.end + n) × (at.end ≤ at.room → 2 ^ 64 ≤ at.room + max (n + 1) ZEROS_AHEAD + 1)

-- the entry can't be written at this position: it has no frame, or the frame has no place
abbrev pub IsTooLong : Position → Entry → Type 0
IsTooLong at entry =
    (HasFrame at.generation at.end entry → ⊥) ⊎ LacksPlace at (length (frame_of at.generation at.end entry))

-- THE CAUSE of what a call that appends has returned: `asks` is that the journal might ask its disk, `long` that there is
-- no number, no frame or no place
abbrev pub AppendHasCause : {T : Type 0} → Result T JournalError → Bool → Type 0 → ℕ → ℕ → Type 0
AppendHasCause (Ok x) asks long old new = IsTrue asks × (new ≡ old)
AppendHasCause (Err GivenUp) asks long old new = IsFalse asks × (new ≡ old)
AppendHasCause (Err TooLong) asks long old new = IsTrue asks × long × (new ≡ old)
AppendHasCause (Err NoMemory) asks long old new = IsTrue asks × (new ≡ old)
AppendHasCause (Err DiskFull) asks long old new = IsTrue asks × MoreFaults old new
AppendHasCause (Err (Disk error)) asks long old new = IsTrue asks × MoreFaults old new
AppendHasCause (Err _) asks long old new = ⊥

-- THE CAUSE of what a sync has returned
abbrev pub SyncHasCause : {T : Type 0} → Result T JournalError → Bool → ℕ → ℕ → Type 0
SyncHasCause (Ok x) asks old new = IsTrue asks × (new ≡ old)
SyncHasCause (Err GivenUp) asks old new = IsFalse asks × (new ≡ old)
SyncHasCause (Err (Disk error)) asks old new = IsTrue asks × MoreFaults old new
SyncHasCause (Err _) asks old new = ⊥

-- the cause of an error of a call that opens a log: `wrong error` says that the file is refused for this reason
abbrev pub OpenFails : JournalError → Bool → (JournalError → Type 0) → ℕ → ℕ → Type 0
OpenFails GivenUp usable wrong old new = IsFalse usable × (new ≡ old)
OpenFails NoMemory usable wrong old new = IsTrue usable × (new ≡ old)
OpenFails (Disk error) usable wrong old new = IsTrue usable × MoreFaults old new
OpenFails error usable wrong old new = IsTrue usable × wrong error × (new ≡ old)

-- THE CAUSE of what a call that opens a log has returned
abbrev pub OpenHasCause : {T : Type 0} → Result T JournalError → Bool → (JournalError → Type 0) → ℕ → ℕ → Type 0
OpenHasCause (Ok x) usable wrong old new = IsTrue usable × (new ≡ old)
OpenHasCause (Err error) usable wrong old new = OpenFails error usable wrong old new

-- the disk counts a refused call exactly if the error says that the disk had no room
abbrev pub TellsFull : {T : Type 0} → Result T JournalError → ℕ → ℕ → Type 0
TellsFull (Err DiskFull) old new = MoreFaults old new
TellsFull (Err (Disk error)) old new = MatchBool (is_no_room error) (MoreFaults old new) (new ≡ old)
TellsFull _ old new = new ≡ old

-- whether the journal may ask its disk changes only if the disk failed. If it still may, zeros were not written, and the
-- disk was not full
abbrev pub GoesOn : {T : Type 0} → Result T JournalError → Bool → Bool → Type 0
GoesOn (Err (Disk error)) old new = IsTrue new → IsFalse (is_no_room error)
GoesOn _ old new = new ≡ old

-- the journal is given up in a call only if a sync failed, which stops the disk, or the write of a frame: `tried` is that
-- it was tried
abbrev pub GivesUp : Bool → Bool → Bool → Type 0 → Type 0
GivesUp old new is_usable tried = IsFalse old → IsTrue new → IsTrue is_usable → tried

-- the frame of the entry at this position, and one zero, have room at the position now
abbrev pub HasRoom : Position → Position → Entry → Type 0
HasRoom at now entry = now.end + length (frame_of at.generation at.end entry) < now.room

-- the fact holds if the call returned an error, and not one of the disk
abbrev pub OnRefusal : {T : Type 0} → Result T JournalError → Type 0 → Type 0
OnRefusal (Ok x) P = Unit {0}
OnRefusal (Err (Disk error)) P = Unit {0}
OnRefusal (Err _) P = P
