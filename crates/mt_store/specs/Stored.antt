-- A map and the log of its commits: what the log has, and what is found after a crash.
use Rattle.std.specs.Prelude.{◌≡◌, ℕ, ◌≤◌, List, length, take}
use Rattle.mt_types.specs.declared.row.Change.{Change}
use Rattle.mt_types.specs.Rows.{after}
use Rattle.mt_promise.specs.History.{History, moment}
use Rattle.mt_index.specs.Stands.{MachineView, Stands}
use Rattle.mt_frame.specs.declared.entry.Entry.{Entry}
use Rattle.mt_frame.specs.declared.entry.LogHeader.{LogHeader}
use Rattle.mt_journal.specs.declared.position.Position.{Position}
use Rattle.mt_journal.specs.Keeping.{Keeps}
use Rattle.mt_journal.specs.Log.{IsLog}
use Rattle.mt_replay.specs.Replay.{records_in, records_of}

-- a log of an index of C columns that begins with its first commit
pub record IsOf (C : ℕ) (header : LogHeader) : Type 0 where
  pub columns : header.columns ≡ C
  pub base : header.base ≡ 0

-- THE MAP has made exactly these commits
pub record HasMade (changes : List Change) (s : MachineView) : Type 0 where
  pub h : History
  pub stands : Stands s h
  pub commits : (moment h).commits ≡ changes

-- THESE ARE THE COMMITS of the map, and the log has the first of them, in their order: as many as it says
pub record IsStored (changes : List Change) (s : MachineView) (at : Position) (seen : List ℕ) (may_leave : List ℕ → Type 0) : Type 0 where
  pub made : HasMade changes s
  pub header : LogHeader
  pub own : IsOf s.columns header
  pub entries : List Entry
  pub keeps : Keeps at seen may_leave header entries
  pub within : at.newest ≤ length changes
  pub written : records_in entries ≡ take at.newest (records_of s.columns changes)

-- WHAT IS FOUND: these bytes are a log of exactly the first of these commits, and of as many at least as are durable
pub record Recovers (C : ℕ) (changes : List Change) (durable : ℕ) (left : List ℕ) : Type 0 where
  pub header : LogHeader
  pub own : IsOf C header
  pub entries : List Entry
  pub log : IsLog header entries left
  pub count : ℕ
  pub within : count ≤ length changes
  pub kept : durable ≤ count
  pub records : records_in entries ≡ take count (records_of C changes)

-- AFTER A CRASH, whatever of the file it leaves, that is found of these commits, which are those of the map
pub record AllRecover (changes : List Change) (s : MachineView) (durable : ℕ) (may_leave : List ℕ → Type 0) : Type 0 where
  pub made : HasMade changes s
  pub found : (left : List ℕ) → may_leave left → Recovers s.columns changes durable left

-- WHAT IS OPENED AGAIN over what a crash has left of these commits: exactly the rows after the first of them, with their
-- versions, and after as many at least as were durable. The commits by which the index has them now are `again`: each left
-- of its key what the one before left. The index continues with the next number, and its log has them.
pub record FindsAgain (C : ℕ) (changes : List Change) (durable : ℕ) (s : MachineView) (at : Position) (seen : List ℕ)
    (may_leave : List ℕ → Type 0) : Type 0 where
  pub count : ℕ
  pub within : count ≤ length changes
  pub kept : durable ≤ count
  pub again : List Change
  pub as_many : length again ≡ count
  pub same_records : records_of C again ≡ take count (records_of C changes)
  pub same_rows : after C again ≡ after C (take count changes)
  pub stored : IsStored again s at seen may_leave
