-- THE CHANGES OF A SHARED INDEX, in the log of a folder. What the index is at a moment is read while the lock is held; nothing else is
-- known of it.
use Rattle.std.specs.Prelude.{◌≡◌, ◌≤◌, ℕ, List, length, Result, OnOk, Option, Some, None}
use Rattle.mt_types.specs.declared.row.Change.{Change}
use Rattle.mt_frame.specs.declared.entry.Part.{Part}
use Rattle.mt_promise.specs.History.{History, moment}
use Rattle.mt_index.specs.Stands.{MachineView, Stands}
use Rattle.mt_folder_log.specs.declared.checkpoint.Other.{Other}
use Rattle.mt_folder_log.specs.declared.log.FolderLog.{FolderLog}
use Rattle.mt_folder_log.specs.Folder.{AllRecover, AreNextRows, HasChanges}
use Rattle.mt_folder_log.specs.Made.{AreFirstOf}
use Rattle.mt_logger.specs.declared.error.LoggerError.{LoggerError}
use Rattle.mt_logger.specs.declared.logger.Logger.{Logger}

-- the rows that are copied next are those after the first n of these changes
abbrev pub AreReady : {D : Type 0} → ℕ → List Change → ℕ → Other D → Option Part → Type 0
AreReady C changes n other None = Unit {0}
AreReady C changes n other (Some part) = AreNextRows C changes n other part

-- THE FOLDER HAS THE FIRST OF THESE CHANGES, and so have the rows that are copied next
abbrev pub KeepsChanges : {D : Type 0} → (D → List ℕ) → (D → List ℕ → Type 0) → List Change → Logger D → Type 0
KeepsChanges seen may_leave changes logger =
    HasChanges seen may_leave changes logger.log
    × AreReady logger.log.columns changes logger.log.journal.at.newest logger.log.other logger.ready

-- AN INDEX AT THIS MOMENT HAS MADE THE FIRST OF THESE CHANGES, of which the log has at least those with whose rows it was loaded
pub record HasMade {D : Type 0} (changes : List Change) (m : MachineView) (log : FolderLog D) : Type 0 where
  pub h : History
  pub stands : Stands m h
  pub columns : m.columns ≡ log.columns
  pub made : AreFirstOf m.columns changes (moment h).commits
  pub loaded : length made.before ≤ log.journal.at.newest

-- A CALL FOLLOWS THE INDEX at a moment. For all changes of which it has made the first then: if the folder had the first of them
-- before the call, it has so after it, unless the call fails; and whatever a crash leaves then has the first of them, at least those
-- that were durable before the call
pub record Follows {D T : Type 0} (seen : D → List ℕ) (may_leave : D → List ℕ → Type 0) (old new : Logger D) (result : Result T LoggerError) : Type 0 where
  pub m : MachineView
  pub is : (h : History) × Stands m h
  pub changes : (changes : List Change) → HasMade changes m old.log → KeepsChanges seen may_leave changes old
      → OnOk result (KeepsChanges seen may_leave changes new)
  pub recover : (changes : List Change) → HasMade changes m old.log → KeepsChanges seen may_leave changes old
      → AllRecover may_leave changes old.log.journal.at.durable old.log.journal.at.generation new.log
