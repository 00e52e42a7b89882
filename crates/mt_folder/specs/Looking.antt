-- What is looked for in the file of a log: frames where a crash leaves none.
use Rattle.std.specs.Prelude.{◌≡◌, ◌<◌, ◌≤◌, ℕ, nat_le, nat_lt, Bool, true, false, ◌&&◌, List, [], ◌∷◌, length, drop, IsTrue, Option, Some, None, Result, Ok, Err}
use Rattle.mt_frame.specs.declared.entry.Entry.{Entry}
use Rattle.mt_frame.specs.declared.entry.Entry.TheVariants.{Header, Commits as Group, Rows as Listed, Sealed, Closed}
use Rattle.mt_frame.specs.declared.fault.FrameFault.{FrameFault}
use Rattle.mt_frame.specs.Faults.{frame_at}
use Rattle.mt_folder.specs.declared.looking.TheConstants.{FIRST}
use Rattle.mt_folder.specs.declared.error.FolderError.{FolderError}
use Rattle.mt_folder.specs.declared.error.FolderError.TheVariants.{Io, Busy, Journal, Lost, Begins, Refused}
use Rattle.mt_folder.specs.declared.log.LogRead.{LogRead}
use Rattle.mt_journal.specs.declared.position.Position.{Position}
use Rattle.mt_journal.specs.Recovery.{HasReadAll}

-- the bytes may begin with a frame: the first byte of each is at least FIRST
abbrev pub may_begin : List ℕ → Bool
may_begin [] = false
may_begin (byte ∷ bytes) = nat_le FIRST byte

-- a whole frame was read
abbrev pub is_whole : Result (Option (Entry × ℕ)) FrameFault → Bool
is_whole (Ok (Some found)) = true
is_whole (Ok None) = false
is_whole (Err fault) = false

-- an entry says that more commits than these were durable
abbrev pub entry_says_more : ℕ → Entry → Bool
entry_says_more newest (Group commits) = nat_lt newest commits.durable
entry_says_more newest (Header header) = false
entry_says_more newest (Listed part) = false
entry_says_more newest (Sealed count) = false
entry_says_more newest (Closed number) = false

-- a whole frame was read that says so
abbrev pub reads_more : ℕ → Result (Option (Entry × ℕ)) FrameFault → Bool
reads_more newest (Ok (Some found)) = entry_says_more newest found.0
reads_more newest (Ok None) = false
reads_more newest (Err fault) = false

-- these bytes, from a place of a log of this generation on, begin with a whole frame
abbrev pub is_frame : ℕ → ℕ → List ℕ → Bool
is_frame generation place bytes = may_begin bytes && is_whole (frame_at generation place bytes)

-- and with one of commits that says that more than `newest` were durable
abbrev pub says_more : ℕ → ℕ → ℕ → List ℕ → Bool
says_more generation newest place bytes = may_begin bytes && reads_more newest (frame_at generation place bytes)

-- THE FIRST PLACE from `from` on and before `end` that is so, or there is none
abbrev pub IsFirst : (ℕ → Bool) → ℕ → ℕ → Option ℕ → Type 0
IsFirst is from end None = (place : ℕ) → from ≤ place → place < end → is place ≡ false
IsFirst is from end (Some found) = (from ≤ found) × (found < end) × IsTrue (is found) × ((place : ℕ) → from ≤ place → place < found → is place ≡ false)

-- the first whole frame of a log of this generation in a file
abbrev pub IsFirstFrame : ℕ → List ℕ → Option ℕ → Type 0
IsFirstFrame generation bytes found = IsFirst (λ place. is_frame generation place (drop place bytes)) 0 (length bytes) found

-- the first frame after the end of a log that says that commits are missing
abbrev pub IsFirstLost : Position → List ℕ → Option ℕ → Type 0
IsFirstLost at bytes found = IsFirst (λ place. says_more at.generation at.newest place (drop place bytes)) at.end (length bytes) found

-- the bytes are a log of such an index, up to this position
pub record IsReadTo (C : ℕ) (bytes : List ℕ) (at : Position) : Type 0 where
  pub log : LogRead
  pub columns : log.header.columns ≡ C
  pub read : HasReadAll log.header log.entries.items at bytes

-- THE FILE HAS A LOG of such an index, and no frame after its end says that commits are missing
pub record LacksNone (C : ℕ) (bytes : List ℕ) : Type 0 where
  pub at : Position
  pub read : IsReadTo C bytes at
  pub none : IsFirstLost at bytes None

-- COMMITS ARE MISSING, after this one, as the frame at this place says
pub record LacksAfter (C : ℕ) (bytes : List ℕ) (commit place : ℕ) : Type 0 where
  pub at : Position
  pub read : IsReadTo C bytes at
  pub newest : commit ≡ at.newest
  pub first : IsFirstLost at bytes (Some place)

-- why a file is refused: if commits are missing, some are
abbrev pub IsRefusedRightly : ℕ → List ℕ → FolderError → Type 0
IsRefusedRightly C bytes (Lost file commit place) = LacksAfter C bytes commit place
IsRefusedRightly C bytes (Io error) = Unit {0}
IsRefusedRightly C bytes Busy = Unit {0}
IsRefusedRightly C bytes (Journal file error) = Unit {0}
IsRefusedRightly C bytes (Begins file commit) = Unit {0}
IsRefusedRightly C bytes (Refused refusal) = Unit {0}
