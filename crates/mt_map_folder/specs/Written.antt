-- What is written of the commits and of the rows of a map.
use Rattle.std.specs.Prelude.{◌≡◌, ◌⊎◌, ◌+◌, ◌^◌, ◌≤◌, ℕ, Bool, List, [], ◌∷◌, length, map, take, drop, Option, MatchOption, Result, Ok, Err}
use Rattle.mt_types.specs.declared.limits.TheConstants.{MAX_RANGE}
use Rattle.mt_types.specs.declared.refusal.Refusal.{Refusal}
use Rattle.mt_types.specs.declared.refusal.Refusal.TheVariants.{NoMemory}
use Rattle.mt_frame.specs.declared.entry.Entry.{Entry}
use Rattle.mt_frame.specs.declared.entry.Part.{Part}
use Rattle.mt_frame.specs.declared.entry.Record.{Record}
use Rattle.mt_promise.specs.Alone.{IsRangeOfMap}
use Rattle.mt_promise.specs.History.{History, moment, rows}
use Rattle.mt_commit.specs.Log.{newest}
use Rattle.mt_commit.specs.Logged.{deltas_of}
use Rattle.mt_folder_log.specs.declared.checkpoint.TheConstants.{PART}
use Rattle.mt_index.specs.Stands.{MachineView, Stands}
use Rattle.mt_journal.specs.declared.position.Position.{Position}
use Rattle.mt_journal.specs.Appending.{with_commits}
use Rattle.mt_journal.specs.Causes.{next_commits, AppendHasCause, IsTooLong}
use Rattle.mt_journal.specs.declared.error.JournalError.{JournalError}
use Rattle.mt_map_folder.specs.declared.error.LogError.{LogError}
use Rattle.mt_map_folder.specs.declared.error.LogError.TheVariants.{Refused, Journal}
use Rattle.mt_replay.specs.Replay.{record_of}

-- what the commits after the first `from` left, of at most MAX_RANGE of them
abbrev pub left_after : ℕ → ℕ → History → List Record
left_after columns from h = map record_of (take MAX_RANGE (drop from (deltas_of columns (moment h).commits)))

-- the entries of a log, and one more of these commits, if there are some
abbrev pub entries_with : Position → List Record → List Entry → List Entry
entries_with at [] entries = entries
entries_with at (first ∷ more) entries = with_commits at (first ∷ more) entries

-- these are the first rows of the map from a key on, at most PART, after all of its commits
pub record AreOfMap (s : MachineView) (start : List ℕ) (part : Part) : Type 0 where
  pub at : part.at ≡ newest s.log
  pub are : (h : History) → Stands s h → IsRangeOfMap (rows s.columns (moment h)) [] start PART part.rows

-- commits that can't be written there: their numbers are spent, or they have no frame or no place
pub record AreTooLong (at : Position) : Type 0 where
  pub records : List Record
  pub long : (2 ^ 64 ≤ at.newest + length records + 1) ⊎ IsTooLong at (next_commits at records)

-- THE CAUSE of what a write has returned. The map is asked for its next commits with this fault, the log might ask its disk if
-- `asks`, and `same` is that the log is as before
abbrev pub WriteHasCause : {T : Type 0} → Result T LogError → Option Refusal → Type 0 → Bool → Position → ℕ → ℕ → Type 0
WriteHasCause (Ok x) fault same asks at old new = new ≡ old
WriteHasCause (Err (Refused refusal)) fault same asks at old new = MatchOption fault (refusal ≡ NoMemory) (λ first. refusal ≡ first) × same
WriteHasCause {T} (Err (Journal error)) fault same asks at old new = let failed : Result T JournalError = Err error in AppendHasCause failed asks (AreTooLong at) old new
