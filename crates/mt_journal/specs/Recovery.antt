-- How far a log was read. Contracts of private calls speak of it.
use Rattle.std.specs.Prelude.{◌≡◌, ◌≤◌, ℕ, List, ◌++◌, length, drop, IsTrue, Bool}
use Rattle.mt_frame.specs.declared.entry.Entry.{Entry}
use Rattle.mt_frame.specs.declared.entry.LogHeader.{LogHeader}
use Rattle.mt_frame.specs.Ends.{ends}
use Rattle.mt_journal.specs.declared.position.Position.{Position}
use Rattle.mt_journal.specs.Log.{last_number, log_spelling, MaySay}

-- the header and these entries were read of the bytes, up to this position
pub record HasRead (header : LogHeader) (entries : List Entry) (at : Position) (bytes : List ℕ) : Type 0 where
  pub says : MaySay header entries
  pub generation : at.generation ≡ header.generation
  pub newest : at.newest ≡ last_number header.base entries
  pub end : at.end ≡ length (log_spelling header entries)
  pub parts : bytes ≡ log_spelling header entries ++ drop at.end bytes
  pub within : at.end ≤ length bytes

-- and the log ends there
pub record HasReadAll (header : LogHeader) (entries : List Entry) (at : Position) (bytes : List ℕ) : Type 0 where
  pub read : HasRead header entries at bytes
  pub ended : IsTrue (ends (drop at.end bytes))
  pub room : at.room ≡ length bytes
  pub durable : at.durable ≡ at.newest

-- each disk of the type mixes
abbrev pub Mixes : {D : Type 0} → (D → Bool) → Type 0
Mixes {D} is_mixing = (disk : D) → IsTrue (is_mixing disk)

-- nothing was written: a read sees the same, and a crash leaves nothing that it could not leave before
abbrev pub IsUnwritten : List ℕ → List ℕ → (List ℕ → Type 0) → (List ℕ → Type 0) → Type 0
IsUnwritten old new may_leave leaves = (new ≡ old) × ((left : List ℕ) → leaves left → may_leave left)
