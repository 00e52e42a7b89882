-- What a journal keeps of its file, and what a crash leaves of it.
use Rattle.std.specs.Prelude.{◌≡◌, ◌⊎◌, ℕ, ◌+◌, ◌<◌, ◌≤◌, List, ◌++◌, length, take, replicate}
use Rattle.mt_frame.specs.declared.entry.Entry.{Entry}
use Rattle.mt_frame.specs.declared.entry.LogHeader.{LogHeader}
use Rattle.mt_frame.specs.Spelling.{frames_of}
use Rattle.mt_frame.specs.Laws.{OldOrNew}
use Rattle.mt_journal.specs.declared.position.Position.{Position}
use Rattle.mt_journal.specs.Log.{log_spelling, last_number, MaySay, IsLog}

-- WHAT SURVIVES: after a crash the file is a log of the first of these entries, among them each commit up to `durable`
pub record Survives (header : LogHeader) (entries : List Entry) (durable : ℕ) (left : List ℕ) : Type 0 where
  pub count : ℕ
  pub within : count ≤ length entries
  pub log : IsLog header (take count entries) left
  pub kept : durable ≤ last_number header.base (take count entries)

-- each outcome of a crash is so
abbrev pub AllSurvive : LogHeader → List Entry → ℕ → (List ℕ → Type 0) → Type 0
AllSurvive header entries durable may_leave =
    (left : List ℕ) → may_leave left → Survives header entries durable left

-- each outcome of a crash is a log of these entries
abbrev pub AllAreLogs : LogHeader → List Entry → (List ℕ → Type 0) → Type 0
AllAreLogs header entries may_leave = (left : List ℕ) → may_leave left → IsLog header entries left

-- the frames that were synced, then each byte of the later ones or the zero that was there, then zeros up to `room`
pub record IsTorn (header : LogHeader) (synced since : List Entry) (room : ℕ) (left : List ℕ) : Type 0 where
  pub torn : List ℕ
  pub zeros : ℕ
  pub rest : List ℕ
  pub parts : left ≡ log_spelling header synced ++ (torn ++ (replicate zeros 0 ++ rest))
  pub mixed : OldOrNew (frames_of header.generation (length (log_spelling header synced)) since) torn
  pub some : 0 < zeros
  pub room_is : length (log_spelling header synced) + length torn + zeros ≡ room

-- a journal at this position, over a file that a read sees so and of which a crash may leave this, has these entries
pub record Keeps (at : Position) (seen : List ℕ) (may_leave : List ℕ → Type 0) (header : LogHeader) (entries : List Entry) : Type 0 where
  pub says : MaySay header entries
  pub generation : at.generation ≡ header.generation
  pub end : at.end ≡ length (log_spelling header entries)
  pub newest : at.newest ≡ last_number header.base entries
  -- the file has the frames, and zeros up to the room
  pub zeros : ℕ
  pub rest : List ℕ
  pub seen_is : seen ≡ log_spelling header entries ++ (replicate zeros 0 ++ rest)
  pub some : 0 < zeros
  pub room : at.end + zeros ≡ at.room
  -- what was synced, and what was written since
  pub synced : List Entry
  pub since : List Entry
  pub joined : entries ≡ synced ++ since
  pub durable : at.durable ≡ last_number header.base synced
  pub left : (left : List ℕ) → may_leave left → IsTorn header synced since at.room left

-- after the room the file has this number of further zeros
abbrev pub HasZeros : Position → ℕ → List ℕ → LogHeader → List Entry → Type 0
HasZeros at more seen header entries =
    (zeros : ℕ) × (rest : List ℕ)
    × (seen ≡ log_spelling header entries ++ (replicate zeros 0 ++ rest)) × (at.end + zeros ≡ at.room + more)

-- whatever a crash leaves begins with these bytes
abbrev pub AllBegin : List ℕ → (List ℕ → Type 0) → Type 0
AllBegin front may_leave = (left : List ℕ) → may_leave left → (rest : List ℕ) × (left ≡ front ++ rest)

-- bytes before this place with which whatever a crash leaves began, it begins with after the call too
abbrev pub KeepsFronts : ℕ → (List ℕ → Type 0) → (List ℕ → Type 0) → Type 0
KeepsFronts place before after = (front : List ℕ) → length front ≤ place → AllBegin front before → AllBegin front after

-- what was durable stays so: as many commits are durable as before, or all that were written then
abbrev pub StaysDurable : Position → Position → Type 0
StaysDurable old new = (new.durable ≡ old.durable) ⊎ (new.durable ≡ old.newest)
