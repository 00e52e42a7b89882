-- What a map and the log of its folder keep of what turns have reached, and what a crash leaves of that.
use Rattle.std.specs.Prelude.{◌≡◌, ◌≤◌, ℕ, List, length, take}
use Rattle.mt_frame.specs.declared.entry.Entry.{Entry}
use Rattle.mt_frame.specs.declared.entry.LogHeader.{LogHeader}
use Rattle.mt_journal.specs.Log.{IsLog}
use Rattle.mt_types.specs.declared.row.Change.{Change}
use Rattle.mt_commit.specs.Log.{newest}
use Rattle.mt_index.specs.Stands.{MachineView}
use Rattle.mt_folder_log.specs.Folder.{AllFound}
use Rattle.mt_map_folder.specs.Changes.{KeepsChanges}
use Rattle.mt_map_folder.specs.declared.log.MapLog.{MapLog}
use Rattle.mt_lives.specs.Turns.{Reached}

-- these changes are the first of some others, or the same
abbrev pub AreFront : List Change → List Change → Type 0
AreFront changes later = take (length changes) later ≡ changes

-- THE MAP AND ITS LOG ARE WHERE TURNS HAVE LED: the map has made these changes, and the folder keeps them, whatever changes follow
pub record HasLived {D : Type 0} (seen : D → List ℕ) (may_leave : D → List ℕ → Type 0) (C : ℕ) (a : Reached) (s : MachineView) (log : MapLog D) : Type 0 where
  pub kept : (later : List Change) → AreFront a.changes later → KeepsChanges seen may_leave later s log
  pub all : newest s.log ≡ length a.changes
  pub columns : s.columns ≡ C
  pub written : log.log.journal.at.newest ≡ a.written
  pub durable : a.durable ≤ log.log.journal.at.durable

-- these bytes are a log of an index of C columns, of this generation
abbrev pub IsOfGeneration : ℕ → ℕ → List ℕ → Type 0
IsOfGeneration C generation left =
    (header : LogHeader) × (entries : List Entry) × IsLog header entries left × (header.columns ≡ C) × (header.generation ≡ generation)

-- WHATEVER A CRASH LEAVES of the two files has the first of these changes, all that were said to be durable among them
pub record AllAreLeft {D : Type 0} (may_leave : D → List ℕ → Type 0) (C : ℕ) (a : Reached) (log : MapLog D) : Type 0 where
  pub generation : ℕ
  pub heads : (left : List ℕ) → may_leave log.log.journal.disk left → IsOfGeneration C generation left
  pub found : AllFound C may_leave a.changes a.durable generation log.log.journal.disk log.log.other
