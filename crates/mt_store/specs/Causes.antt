-- Which error of a store comes when. `asks` says that the journal might ask its disk, and `old` and `new` are how many calls
-- of the disk had failed, before a call of the store and after it.
use Rattle.std.specs.Prelude.{◌≡◌, ◌⊎◌, ◌+◌, ◌^◌, ◌<◌, ◌≤◌, ℕ, max, Bool, IsTrue, List, length, take, drop, Option, Some, None, Result, Ok, Err}
use Rattle.mt_types.specs.Limits.{open_fault}
use Rattle.mt_types.specs.declared.limits.TheConstants.{MAX_RANGE}
use Rattle.mt_types.specs.declared.refusal.Refusal.{Refusal}
use Rattle.mt_promise.specs.History.{History, moment}
use Rattle.mt_commit.specs.Log.{newest}
use Rattle.mt_index.specs.declared.options.Options.{Options}
use Rattle.mt_index.specs.Stands.{MachineView, Stands}
use Rattle.mt_frame.specs.declared.entry.Record.{Record}
use Rattle.mt_journal.specs.declared.error.JournalError.{JournalError}
use Rattle.mt_journal.specs.declared.error.JournalError.TheVariants.{NoMemory}
use Rattle.mt_journal.specs.declared.position.Position.{Position}
use Rattle.mt_journal.specs.Causes.{AppendHasCause, SyncHasCause, OpenFails, IsTooLong, next_commits}
use Rattle.mt_journal.specs.Refusing.{IsNoRefusal}
use Rattle.mt_replay.specs.Replay.{records_of}
use Rattle.mt_store.specs.declared.error.StoreError.{StoreError}
use Rattle.mt_store.specs.declared.error.StoreError.TheVariants.{Refused, Behind, NotWritten, Journal, Damaged}
use Rattle.mt_store.specs.declared.store.TheConstants.{KEPT}

-- the log lacks a commit of the map
abbrev pub IsBehind : MachineView → Position → Type 0
IsBehind s at = at.newest < newest s.log

-- the next commits that the log lacks, at most MAX_RANGE, can't be written: there is no number, no frame or no place
pub record AreTooLong (s : MachineView) (at : Position) : Type 0 where
  pub records : List Record
  pub next : (h : History) → Stands s h
      → records ≡ take MAX_RANGE (drop at.newest (records_of s.columns (moment h).commits))
  pub long : (2 ^ 64 ≤ at.newest + length records + 1) ⊎ IsTooLong at (next_commits at records)

-- the cause of an error of a write of the log: that of the append, or there was no memory for the commits
abbrev pub WriteFails : JournalError → Bool → Type 0 → ℕ → ℕ → Type 0
WriteFails NoMemory asks long old new = new ≡ old
WriteFails error asks long old new = AppendHasCause {T = ℕ} (Err error) asks long old new

-- THE CAUSE of what a write of the log has returned
abbrev pub WriteHasCause : {T : Type 0} → Result T JournalError → Bool → Type 0 → ℕ → ℕ → Type 0
WriteHasCause (Ok x) asks long old new = IsTrue asks × (new ≡ old)
WriteHasCause (Err error) asks long old new = WriteFails error asks long old new

-- THE CAUSE of what a change has returned, whose commit is written if one was made
abbrev pub ChangeHasCause : {A : Type 0} → Result A StoreError → Bool → Type 0 → ℕ → ℕ → Type 0
ChangeHasCause (Ok found) asks long old new = IsTrue asks × (new ≡ old)
ChangeHasCause (Err (NotWritten commit error)) asks long old new = WriteFails error asks long old new
ChangeHasCause (Err (Refused refusal)) asks long old new = new ≡ old
ChangeHasCause (Err Behind) asks long old new = new ≡ old
ChangeHasCause (Err _) asks long old new = ⊥

-- the same of a remove, which makes no commit if there is no row
abbrev pub RemoveHasCause : Result (Option ℕ) StoreError → Bool → Type 0 → ℕ → ℕ → Type 0
RemoveHasCause (Ok None) asks long old new = new ≡ old
RemoveHasCause (Ok (Some commit)) asks long old new = IsTrue asks × (new ≡ old)
RemoveHasCause (Err error) asks long old new = ChangeHasCause {A = Option ℕ} (Err error) asks long old new

-- THE CAUSE of what a sync has returned
abbrev pub StoreSyncHasCause : Result ℕ StoreError → Bool → ℕ → ℕ → Type 0
StoreSyncHasCause (Ok number) asks old new = SyncHasCause {T = ℕ} (Ok number) asks old new
StoreSyncHasCause (Err (Journal error)) asks old new = SyncHasCause {T = ℕ} (Err error) asks old new
StoreSyncHasCause (Err Behind) asks old new = new ≡ old
StoreSyncHasCause (Err _) asks old new = ⊥

-- the call was refused before it asked anything of the log, and then this is so
abbrev pub IfUnasked : {A : Type 0} → Result A StoreError → Type 0 → Type 0
IfUnasked (Err (Refused refusal)) P = P
IfUnasked (Err Behind) P = P
IfUnasked _ P = Unit {0}

-- the same of a remove, which asks nothing of the log if there is no row
abbrev pub IfRemoveUnasked : Result (Option ℕ) StoreError → Type 0 → Type 0
IfRemoveUnasked (Ok None) P = P
IfRemoveUnasked result P = IfUnasked result P

-- the error of the log that a call has returned, if it has returned one
abbrev pub of_log : {A : Type 0} → Result A StoreError → Result ℕ JournalError
of_log (Err (NotWritten commit error)) = Err error
of_log (Err (Journal error)) = Err error
of_log _ = Ok 0

-- ---- stores that are made or opened
-- why no map is opened with these options: the log of a store's map keeps at least KEPT commits
abbrev pub options_fault : Options → Option Refusal
options_fault options = open_fault options.columns options.log_capacity (max options.log_retention KEPT)

-- THE CAUSE of what a call that makes or opens a store has returned. `wrong error` says that the file is refused for this
-- reason, and `fails error` that the map refused, or that the log's commits can't be made again.
abbrev pub StartHasCause : {T : Type 0} → Result T StoreError → Bool → (JournalError → Type 0) → (StoreError → Type 0) → ℕ → ℕ → Type 0
StartHasCause (Ok store) usable wrong fails old new = IsTrue usable × (new ≡ old)
StartHasCause (Err (Journal error)) usable wrong fails old new = OpenFails error usable wrong old new
StartHasCause (Err (Refused refusal)) usable wrong fails old new = fails (Refused refusal)
StartHasCause (Err (Damaged commit)) usable wrong fails old new = IsTrue usable × fails (Damaged commit)
StartHasCause (Err _) usable wrong fails old new = ⊥

-- the error says nothing against the file
abbrev pub IsNoDamage : StoreError → Type 0
IsNoDamage (Refused refusal) = Unit {0}
IsNoDamage (Journal error) = IsNoRefusal error
IsNoDamage _ = ⊥
