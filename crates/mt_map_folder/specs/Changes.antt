-- THE CHANGES OF A MAP whose rows are in a folder.
use Rattle.std.specs.Prelude.{◌≡◌, ◌≤◌, ℕ, List, length}
use Rattle.mt_types.specs.declared.row.Change.{Change}
use Rattle.mt_promise.specs.History.{History, moment}
use Rattle.mt_index.specs.Stands.{MachineView, Stands}
use Rattle.mt_folder_log.specs.Folder.{HasChanges}
use Rattle.mt_folder_log.specs.Made.{AreFirstOf}
use Rattle.mt_map_folder.specs.declared.log.MapLog.{MapLog}

-- THE MAP HAS MADE THE FIRST OF THESE CHANGES, and the folder keeps those that its log has, the first of the map's at most
pub record KeepsChanges {D : Type 0} (seen : D → List ℕ) (may_leave : D → List ℕ → Type 0) (changes : List Change) (s : MachineView) (log : MapLog D) : Type 0 where
  pub h : History
  pub stands : Stands s h
  pub made : AreFirstOf s.columns changes (moment h).commits
  pub columns : s.columns ≡ log.log.columns
  pub opened : length made.before ≤ log.log.journal.at.newest
  pub within : log.log.journal.at.newest ≤ length (moment h).commits
  pub kept : HasChanges seen may_leave changes log.log
