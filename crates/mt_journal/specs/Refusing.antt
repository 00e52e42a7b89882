-- Why bytes are refused as a log: what is wrong first.
use Rattle.std.specs.Prelude.{◌≡◌, ◌⊎◌, ◌==◌, ◌^◌, ◌≤◌, ℕ, List, [], ◌∷◌, drop, Option, Some, None, Result, Ok, Err, if◌then◌else◌}
use Rattle.mt_frame.specs.declared.entry.Entry.{Entry}
use Rattle.mt_frame.specs.declared.entry.Entry.TheVariants.{Header, Commits as Group, Rows, Sealed, Closed}
use Rattle.mt_frame.specs.declared.entry.LogHeader.{LogHeader}
use Rattle.mt_frame.specs.declared.fault.FrameFault.{FrameFault}
use Rattle.mt_frame.specs.declared.fault.FrameFault.TheVariants as faults
use Rattle.mt_frame.specs.Faults.{frame_at}
use Rattle.mt_journal.specs.declared.error.Damage.{Damage}
use Rattle.mt_journal.specs.declared.error.Damage.TheVariants.{Frame, Order}
use Rattle.mt_journal.specs.declared.error.JournalError.{JournalError}
use Rattle.mt_journal.specs.declared.error.JournalError.TheVariants.{NoLog, NotALog, UnknownFormat, OtherColumns, Damaged, Disk, GivenUp, NoMemory}
use Rattle.mt_journal.specs.declared.position.Position.{Position}
use Rattle.mt_journal.specs.Log.{AreNumbered, last_number}
use Rattle.mt_journal.specs.Recovery.{HasRead}

-- what is wrong if no header is at the front, by the fault of the frame that is there
abbrev pub of_fault : FrameFault → JournalError
of_fault faults.UnknownFormat = UnknownFormat
of_fault faults.Length = NotALog
of_fault faults.Cut = NotALog
of_fault faults.Escape = NotALog
of_fault faults.Digest = Damaged 0 (Frame faults.Digest)
of_fault faults.Entry = Damaged 0 (Frame faults.Entry)

-- what is wrong with what is at the front, for an index of C columns
abbrev pub header_fault : ℕ → Result (Option (Entry × ℕ)) FrameFault → Option JournalError
header_fault C (Err fault) = Some (of_fault fault)
header_fault C (Ok None) = Some NoLog
header_fault C (Ok (Some (Header header, n))) = if header.columns == C then None else Some (OtherColumns header.columns)
header_fault C (Ok (Some (Group commits, n))) = Some NotALog
header_fault C (Ok (Some (Rows part, n))) = Some NotALog
header_fault C (Ok (Some (Sealed count, n))) = Some NotALog
header_fault C (Ok (Some (Closed number, n))) = Some NotALog

-- what comes next, after the commit `newest`, is no frame, or an entry that doesn't follow
abbrev pub NextIs : ℕ → Result (Option (Entry × ℕ)) FrameFault → Damage → Type 0
NextIs newest (Err fault) (Frame found) = found ≡ fault
NextIs newest (Ok (Some found)) Order =
    AreNumbered newest (found.0 ∷ []) → 2 ^ 64 ≤ last_number newest (found.0 ∷ [])
NextIs newest found damage = ⊥

-- at this place, after entries that were read of the bytes, is this damage
pub record IsDamaged (header : LogHeader) (bytes : List ℕ) (place : ℕ) (damage : Damage) : Type 0 where
  pub entries : List Entry
  pub at : Position
  pub read : HasRead header entries at bytes
  pub place_is : place ≡ at.end
  pub next : NextIs at.newest (frame_at at.generation at.end (drop at.end bytes)) damage

-- the next entry was not read for this reason
abbrev pub NextFails : Position → List ℕ → JournalError → Type 0
NextFails at bytes (Damaged place damage) =
    (place ≡ at.end) × NextIs at.newest (frame_at at.generation at.end (drop at.end bytes)) damage
NextFails at bytes NoMemory = Unit {0}
NextFails at bytes _ = ⊥

-- the entries after this header were not read for this reason
abbrev pub EntriesFail : LogHeader → List ℕ → JournalError → Type 0
EntriesFail header bytes (Damaged place damage) = IsDamaged header bytes place damage
EntriesFail header bytes NoMemory = Unit {0}
EntriesFail header bytes _ = ⊥

-- the header was not read for this reason
abbrev pub HeaderFails : ℕ → List ℕ → JournalError → Type 0
HeaderFails C bytes NoMemory = Unit {0}
HeaderFails C bytes (Disk error) = ⊥
HeaderFails C bytes GivenUp = ⊥
HeaderFails C bytes error = header_fault C (frame_at 0 0 bytes) ≡ Some error

-- THE BYTES ARE REFUSED as a log of an index of C columns for this reason: the header, or what comes after it
abbrev pub LogFails : ℕ → List ℕ → JournalError → Type 0
LogFails C bytes error =
    HeaderFails C bytes error ⊎ ((header : LogHeader) × (header.columns ≡ C) × EntriesFail header bytes error)

-- and so is a file, in which no log was made if it is empty
abbrev pub FileFails : ℕ → List ℕ → JournalError → Type 0
FileFails C [] error = error ≡ NoLog
FileFails C (byte ∷ bytes) error = LogFails C (byte ∷ bytes) error

-- the error is not of the file's bytes
abbrev pub IsNoRefusal : JournalError → Type 0
IsNoRefusal (Disk error) = Unit {0}
IsNoRefusal GivenUp = Unit {0}
IsNoRefusal NoMemory = Unit {0}
IsNoRefusal _ = ⊥
