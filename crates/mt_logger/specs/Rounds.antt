-- What a step of a checkpoint does. Of a disk, a read sees `seen`, a crash may leave `leaves`, and no sync has failed if `is_usable`.
use Rattle.std.specs.Prelude.{◌≡◌, ◌⊎◌, ◌==◌, ℕ, nat_lt, Bool, List, [], length, map, if◌then◌else◌, is_some, Option, Some, None, Result, Ok, OnOk, OnErr, IfOk, IsTrue}
use Rattle.mt_types.specs.Numbers.{greatest_number}
use Rattle.mt_types.specs.declared.row.Change.{Change}
use Rattle.mt_types.specs.declared.row.Delta.{Delta}
use Rattle.mt_frame.specs.declared.entry.Entry.{Entry}
use Rattle.mt_frame.specs.declared.entry.LogHeader.{LogHeader}
use Rattle.mt_frame.specs.declared.entry.Part.{Part}
use Rattle.mt_journal.specs.Appending.{with_part, with_seal}
use Rattle.mt_journal.specs.Causes.{may_ask}
use Rattle.mt_journal.specs.Keeping.{AllAreLogs, Keeps}
use Rattle.mt_replay.specs.Replay.{record_of}
use Rattle.mt_folder_log.specs.declared.checkpoint.Round.{Round}
use Rattle.mt_folder_log.specs.declared.checkpoint.Round.TheVariants.{Rests as RoundRests, Moves as RoundMoves, Copies as RoundCopies, Seals as RoundSeals}
use Rattle.mt_folder_log.specs.declared.checkpoint.TheConstants.{PART}
use Rattle.mt_folder_log.specs.Folder.{AllRecover}
use Rattle.mt_folder_log.specs.Moving.{continued, end_of, round_of, start_of, IfNeeded, IsAfter, IsFree, Needs}
use Rattle.mt_logger.specs.declared.checkpoint.Advanced.{Advanced}
use Rattle.mt_logger.specs.declared.checkpoint.Advanced.TheVariants.{Waits, Goes, Ends}
use Rattle.mt_logger.specs.declared.checkpoint.Step.{Step}
use Rattle.mt_logger.specs.declared.checkpoint.Step.TheVariants.{Rests, Moves, Reads as ReadsStep, Copies, Seals}
use Rattle.mt_logger.specs.declared.error.LoggerError.{LoggerError}
use Rattle.mt_logger.specs.declared.logger.Logger.{Logger}
use Rattle.mt_logger.specs.Following.{Follows, KeepsChanges}
use Rattle.mt_logger.specs.Reading.{AreOfMoment}
use Rattle.mt_logger.specs.Writing.{entries_with}

-- the step of a round, by whether the log has the last generation, and whether rows were read
abbrev pub step_of : Bool → Bool → Round → Step
step_of is_last has_rows RoundRests = Rests
step_of is_last has_rows RoundMoves = if is_last then Rests else Moves
step_of is_last has_rows RoundCopies = if has_rows then Copies else ReadsStep
step_of is_last has_rows RoundSeals = Seals

-- what the log needs next
abbrev pub next_of : {D : Type 0} → Logger D → Step
next_of logger =
    step_of (logger.log.journal.at.generation == greatest_number) (is_some logger.ready) (round_of logger.log.least logger.log.journal.at logger.log.other)

-- the log has these entries
abbrev pub Has : {D : Type 0} → (D → List ℕ) → (D → List ℕ → Type 0) → Logger D → LogHeader → List Entry → Type 0
Has seen leaves logger header entries =
    Keeps logger.log.journal.at (seen logger.log.journal.disk) (leaves logger.log.journal.disk) header entries

-- if the call failed, the log is as it was, unless its disk failed
abbrev pub Stays : {D : Type 0} → (D → List ℕ) → (D → List ℕ → Type 0) → (D → Bool) → Logger D → Logger D → Result Advanced LoggerError → Type 0
Stays seen leaves is_usable old new result =
    (header : LogHeader) (entries : List Entry) → Has seen leaves old header entries
    → IsTrue (may_ask new.log.journal.is_given_up (is_usable new.log.journal.disk)) → OnErr result (Has seen leaves new header entries)

-- the folder keeps the same changes; and if the call failed, whatever a crash leaves has the first of them, at least those that
-- were durable before
pub record KeepsAll {D : Type 0} (seen : D → List ℕ) (leaves : D → List ℕ → Type 0) (old new : Logger D) (result : Result Advanced LoggerError) : Type 0 where
  pub changes : (changes : List Change) → KeepsChanges seen leaves changes old → OnOk result (KeepsChanges seen leaves changes new)
  pub recover : (changes : List Change) → KeepsChanges seen leaves changes old
      → OnErr result (AllRecover leaves changes old.log.journal.at.durable old.log.journal.at.generation new.log)

-- THE LOG MOVES to the other file: the one before is needed, and has the whole log
pub record IsMoved {D : Type 0} (seen : D → List ℕ) (leaves : D → List ℕ → Type 0) (is_usable : D → Bool) (old new : Logger D) (result : Result Advanced LoggerError) : Type 0 where
  pub done : IfOk result (λ done. done ≡ Goes)
  pub before : (header : LogHeader) (entries : List Entry) → Has seen leaves old header entries
      → OnOk result (Needs new.log.other (λ disk. AllAreLogs header entries (leaves disk)))
  pub begins : OnOk result (Has seen leaves new (continued old.log.columns old.log.journal.at) [])
  pub newest : OnOk result (new.log.journal.at.newest ≡ old.log.journal.at.newest)
  pub stays : Stays seen leaves is_usable old new result
  pub keeps : KeepsAll seen leaves old new result

-- what was read of the index was written, if it was read: the commits that the log lacked, after its entries, and the rows after
-- these commits are copied next
pub record IsRead {D : Type 0} (seen : D → List ℕ) (leaves : D → List ℕ → Type 0) (old new : Logger D) : Type 0 where
  pub deltas : List Delta
  pub part : Part
  pub read : AreOfMoment old.log.journal.at.newest (start_of old.log.other) deltas part
  pub ready : new.ready ≡ Some part
  pub newest : new.log.journal.at.newest ≡ part.at
  pub other : new.log.other ≡ old.log.other
  pub kept : (header : LogHeader) (entries : List Entry) → Has seen leaves old header entries
      → Has seen leaves new header (entries_with old.log.journal.at (map record_of deltas) entries)

abbrev pub HasRead : {D : Type 0} → (D → List ℕ) → (D → List ℕ → Type 0) → Logger D → Logger D → Advanced → Type 0
HasRead seen leaves old new Waits = new ≡ old
HasRead seen leaves old new Goes = IsRead seen leaves old new
HasRead seen leaves old new (Ends rows) = ⊥

-- THE NEXT ROWS ARE READ, with the commits that the log lacks, at one moment. Nothing is done if a change is open then, or more
-- commits are lacking than can be written at once
pub record Reads {D : Type 0} (seen : D → List ℕ) (leaves : D → List ℕ → Type 0) (is_usable : D → Bool) (old new : Logger D) (result : Result Advanced LoggerError) : Type 0 where
  pub done : IfOk result (HasRead seen leaves old new)
  pub stays : Stays seen leaves is_usable old new result
  pub follows : Follows seen leaves old new result ⊎ (new ≡ old)

-- THE ROWS THAT WERE READ ARE COPIED
pub record IsCopied {D : Type 0} (seen : D → List ℕ) (leaves : D → List ℕ → Type 0) (is_usable : D → Bool) (part : Part) (old new : Logger D) (result : Result Advanced LoggerError) : Type 0 where
  pub done : IfOk result (λ done. done ≡ Goes)
  pub kept : (header : LogHeader) (entries : List Entry) → Has seen leaves old header entries
      → OnOk result (IsAfter (end_of part) (nat_lt (length part.rows) PART) old.log.other new.log.other
      × Has seen leaves new header (with_part part entries))
  pub newest : OnOk result (new.log.journal.at.newest ≡ old.log.journal.at.newest)
  pub stays : Stays seen leaves is_usable old new result
  pub keeps : KeepsAll seen leaves old new result

abbrev pub Copied : {D : Type 0} → (D → List ℕ) → (D → List ℕ → Type 0) → (D → Bool) → Option Part → Logger D → Logger D → Result Advanced LoggerError → Type 0
Copied seen leaves is_usable None old new result = ⊥
Copied seen leaves is_usable (Some part) old new result = IsCopied seen leaves is_usable part old new result

-- THE LOG IS SEALED: it has all rows, and the other file is free
pub record IsSealed {D : Type 0} (seen : D → List ℕ) (leaves : D → List ℕ → Type 0) (is_usable : D → Bool) (old new : Logger D) (result : Result Advanced LoggerError) : Type 0 where
  pub sealed : IfNeeded old.log.other (λ copied. IfOk result (λ done. done ≡ Ends copied))
  pub kept : (header : LogHeader) (entries : List Entry) → Has seen leaves old header entries
      → IfNeeded old.log.other (λ copied. OnOk result (IsFree new.log.other
      × AllAreLogs header (with_seal copied entries) (leaves new.log.journal.disk)
      × Has seen leaves new header (with_seal copied entries)))
  pub newest : OnOk result (new.log.journal.at.newest ≡ old.log.journal.at.newest)
  pub stays : Stays seen leaves is_usable old new result
  pub keeps : KeepsAll seen leaves old new result

-- A STEP OF A CHECKPOINT
abbrev pub Advances : {D : Type 0} → Step → (D → List ℕ) → (D → List ℕ → Type 0) → (D → Bool) → Logger D → Logger D → Result Advanced LoggerError → Type 0
Advances Rests seen leaves is_usable old new result = (result ≡ Ok Waits) × (new ≡ old)
Advances Moves seen leaves is_usable old new result = IsMoved seen leaves is_usable old new result
Advances ReadsStep seen leaves is_usable old new result = Reads seen leaves is_usable old new result
Advances Copies seen leaves is_usable old new result = Copied seen leaves is_usable old.ready old new result
Advances Seals seen leaves is_usable old new result = IsSealed seen leaves is_usable old new result
