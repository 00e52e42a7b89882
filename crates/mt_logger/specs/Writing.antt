-- What is written of the commits of a shared index, and what a crash leaves of it.
use Rattle.std.specs.Prelude.{◌≡◌, ◌⊎◌, ℕ, ◌+◌, ◌^◌, ◌≤◌, Bool, List, [], ◌∷◌, length, map, Ok, Err}
use Rattle.std.specs.Global.{Vec}
use Rattle.mt_types.specs.declared.limits.TheConstants.{MAX_RANGE}
use Rattle.mt_types.specs.declared.row.Delta.{Delta}
use Rattle.mt_frame.specs.declared.entry.Entry.{Entry}
use Rattle.mt_frame.specs.declared.entry.LogHeader.{LogHeader}
use Rattle.mt_frame.specs.declared.entry.Record.{Record}
use Rattle.mt_journal.specs.declared.error.JournalError.TheVariants.{NoMemory}
use Rattle.mt_journal.specs.declared.position.Position.{Position}
use Rattle.mt_journal.specs.Appending.{with_commits}
use Rattle.mt_journal.specs.Causes.{AppendHasCause, IsTooLong, next_commits}
use Rattle.mt_journal.specs.Keeping.{AllSurvive}
use Rattle.mt_replay.specs.Replay.{record_of}
use Rattle.mt_shared.specs.Feeds.{FeedsSomewhere}
use Rattle.mt_logger.specs.declared.error.LoggerError.{LoggerError}
use Rattle.mt_logger.specs.declared.error.LoggerError.TheVariants.{Fed, Journal}

-- these are the next commits of the index after the first `from`, at most MAX_RANGE, as it had them at some moment
abbrev pub AreFed : ℕ → List Delta → Type 0
AreFed from deltas = (list : Vec Delta) × (list.items ≡ deltas) × FeedsSomewhere from MAX_RANGE (Ok list)

-- the entries of a log, and one more of these commits, if there are some
abbrev pub entries_with : Position → List Record → List Entry → List Entry
entries_with at [] entries = entries
entries_with at (first ∷ more) entries = with_commits at (first ∷ more) entries

-- THE NEXT COMMITS of the index are written: a log that had some entries has what they left after them
pub record Writes (at : Position) (before after : LogHeader → List Entry → Type 0) (count : ℕ) : Type 0 where
  pub deltas : List Delta
  pub fed : AreFed at.newest deltas
  pub many : count ≡ length deltas
  pub kept : (header : LogHeader) (entries : List Entry) → before header entries
      → after header (entries_with at (map record_of deltas) entries)

-- WHATEVER A CRASH LEAVES is a log of the first entries, with those of the next commits at the end, if some were fed, and
-- among them each commit that was durable
pub record Leaves (at : Position) (before : LogHeader → List Entry → Type 0) (may_leave : List ℕ → Type 0) : Type 0 where
  pub deltas : List Delta
  pub fed : (deltas ≡ []) ⊎ AreFed at.newest deltas
  pub survive : (header : LogHeader) (entries : List Entry) → before header entries
      → AllSurvive header (entries_with at (map record_of deltas) entries) at.durable may_leave

-- commits have no number, no frame or no place
abbrev pub AreTooLong : Position → List Record → Type 0
AreTooLong at records = (2 ^ 64 ≤ at.newest + length records + 1) ⊎ IsTooLong at (next_commits at records)

-- why nothing was written: `asks` is that the log might ask its disk, of which `old` and `new` are the failed calls
abbrev pub WriteFails : Position → Bool → ℕ → ℕ → LoggerError → Type 0
WriteFails at asks old new (Fed refusal) = FeedsSomewhere at.newest MAX_RANGE (Err refusal)
WriteFails at asks old new (Journal NoMemory) = new ≡ old
WriteFails at asks old new (Journal error) =
    (deltas : List Delta) × AreFed at.newest deltas
    × AppendHasCause {T = List Delta} (Err error) asks (AreTooLong at (map record_of deltas)) old new

-- why these records weren't written
abbrev pub AppendFails : Position → List Record → Bool → ℕ → ℕ → LoggerError → Type 0
AppendFails at records asks old new (Fed refusal) = ⊥
AppendFails at records asks old new (Journal NoMemory) = new ≡ old
AppendFails at records asks old new (Journal error) = AppendHasCause {T = List Record} (Err error) asks (AreTooLong at records) old new
