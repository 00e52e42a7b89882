-- A moment of a machine to which it can go back, and a machine that has gone ahead of it.
use Rattle.std.specs.Prelude.{ℕ, ◌≡◌, ◌≤◌, ◌<◌, ◌+◌, ◌*◌, ◌⊎◌, List, [], ◌++◌, length}
use Rattle.mt_types.specs.Numbers.{greatest_number}
use Rattle.mt_types.specs.declared.refusal.Refusal.{Refusal}
use Rattle.mt_types.specs.declared.refusal.Refusal.TheVariants.{Spent}
use Rattle.mt_types.specs.declared.row.Change.{Change}
use Rattle.mt_promise.specs.History.{History, moment}
use Rattle.mt_promise.specs.Legal.{Legal}
use Rattle.mt_commit.specs.Log.{IsLog, keeping, newest}
use Rattle.mt_undo.specs.Reserving.{IsRoomRefused}
use Rattle.mt_index.specs.declared.marks.Mark.{Mark}
use Rattle.mt_index.specs.Alone.{IsIdle}
use Rattle.mt_index.specs.Stands.{MachineView, Stands}

-- the moment of this machine
abbrev pub mark_of : MachineView → Mark
mark_of s = record { commits = newest s.log; rows = s.log.rows; begun = s.calls.begun; keeping = keeping s.log }

-- a history goes on from another by these changes, and its views are those of the other
pub record GoesOnBy (before : History) (made : List Change) (after : History) : Type 0 where
  pub own : History
  pub block : after ≡ own ++ before
  pub commits : (moment after).commits ≡ (moment before).commits ++ made
  pub views : (moment after).views ≡ (moment before).views
  pub built : (moment after).built ≡ (moment before).built
  pub epoch : (moment after).epoch ≡ (moment before).epoch
  -- each change was made by a call
  pub begun : (moment before).begun + length made ≤ (moment after).begun

-- it goes on by a call for each of these changes, of three events each, and by nothing else
pub record GoesOnByCalls (C : ℕ) (before : History) (made : List Change) (after : History) : Type 0 where
  pub on : GoesOnBy before made after
  pub legal : Legal C after
  pub closed : (moment after).calls ≡ []
  pub begun : (moment after).begun ≡ (moment before).begun + length made
  pub events : length after ≡ length before + 3 * length made

-- the log keeps all that follows, from what it had at the mark on
pub record KeepsAll (s t : MachineView) : Type 0 where
  pub base : t.log.base ≡ s.log.held_after
  pub retention : t.log.retention ≡ greatest_number
  pub capacity : t.log.capacity ≡ s.log.capacity

-- THE MACHINE IS AHEAD OF A MARK of another by these changes, whichever history that was at
pub record IsAhead (s : MachineView) (mark : Mark) (made : List Change) (t : MachineView) : Type 0 where
  pub marked : mark ≡ mark_of s
  pub idle : IsIdle s
  pub sound : IsLog s.log
  pub few : s.log.rows ≤ newest s.log
  pub some : (h : History) × Stands s h
  pub columns : t.columns ≡ s.columns
  pub keeps : KeepsAll s t
  pub led : (h : History) → Stands s h → (ahead : History) × Stands t ahead × GoesOnBy h made ahead

-- why so many removes are refused: too few numbers of calls are left, or the room for a delta is refused
abbrev pub AreRefused : MachineView → ℕ → Refusal → Type 0
AreRefused s count refusal = ((refusal ≡ Spent) × (greatest_number < s.calls.begun + count)) ⊎ IsRoomRefused s.log count refusal
