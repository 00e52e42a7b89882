-- Laws of a log, of the rows that it speaks of and of its holders.
use Rattle.std.specs.Prelude.{ℕ, ◌+◌, ◌-◌, ◌≡◌, ◌<◌, ◌≤◌, ◌==◌, if◌then◌else◌, List, count_by, Contains, Some}
use Rattle.std.specs.FinMap.{get}
use Rattle.mt_types.specs.Numbers.{least}
use Rattle.mt_types.specs.Rows.{Rows}
use Rattle.mt_types.specs.declared.row.Delta.{Delta}
use Rattle.mt_commit.specs.Log.{LogView, IsLog, newest, delta_of, with_delta, trimmed}
use Rattle.mt_commit.specs.Holders.{with_holder, without_holder}
use Rattle.mt_commit.specs.Deltas.{redo, undo, rows_at, Fits}

-- a delta that was done and is undone leaves the rows as they were, where its row before was there
abbrev pub DoneIsUndone : Type 0
DoneIsUndone = (delta : Delta) (rows : Rows) → get rows delta.key ≡ delta.before → undo delta (redo delta rows) ≡ rows

-- and the other way round, where its row after was there
abbrev pub UndoneIsDone : Type 0
UndoneIsDone = (delta : Delta) (rows : Rows) → get rows delta.key ≡ delta.after → redo delta (undo delta rows) ≡ rows

-- a delta that is undone leaves its row before under its key
abbrev pub UndoneLeavesBefore : Type 0
UndoneLeavesBefore = (delta : Delta) (rows : Rows) → get (undo delta rows) delta.key ≡ delta.before

-- the rows at the newest commit are the rows
abbrev pub NewestIsPresent : Type 0
NewestIsPresent = (log : LogView) (rows : Rows) → rows_at log rows (newest log) ≡ rows

-- a log that fits fits after the delta of the next commit, whose row before is there
abbrev pub AppendingFits : Type 0
AppendingFits =
    (log : LogView) (delta : Delta) (rows : Rows) → Fits log rows → get rows delta.key ≡ delta.before
    → Fits (with_delta log delta) (redo delta rows)

-- and the rows at each earlier number stay the same
abbrev pub AppendingKeepsRows : Type 0
AppendingKeepsRows =
    (log : LogView) (delta : Delta) (rows : Rows) (number : ℕ) → number ≤ newest log → get rows delta.key ≡ delta.before
    → rows_at (with_delta log delta) (redo delta rows) number ≡ rows_at log rows number

-- a log that fits fits when it is trimmed
abbrev pub TrimmingFits : Type 0
TrimmingFits = (log : LogView) (rows : Rows) → Fits log rows → Fits (trimmed log) rows

-- and the rows at each number that it still reaches stay the same
abbrev pub TrimmingKeepsRows : Type 0
TrimmingKeepsRows =
    (log : LogView) (rows : Rows) (number : ℕ) → IsLog log → (trimmed log).held_after ≤ number
    → rows_at (trimmed log) rows number ≡ rows_at log rows number

-- the delta of a commit makes the rows at its number of those at the number before, where its row before is
pub record Makes (delta : Delta) (old new : Rows) : Type 0 where
  pub before : get old delta.key ≡ delta.before
  pub made : new ≡ redo delta old

abbrev pub EachDeltaMakesRows : Type 0
EachDeltaMakesRows =
    (log : LogView) (rows : Rows) (number : ℕ) (delta : Delta) → Fits log rows → log.held_after ≤ number
    → delta_of log (number + 1) ≡ Some delta
    → Makes delta (rows_at log rows number) (rows_at log rows (number + 1))

-- how often a number is among the holders
abbrev pub times_held : ℕ → List ℕ → ℕ
times_held number holders = count_by (λ holder. holder == number) holders

-- a number that is pinned is held once more, and the others as often
abbrev pub PinningCounts : Type 0
PinningCounts =
    (pinned number : ℕ) (holders : List ℕ)
    → times_held number (with_holder pinned holders) ≡ times_held number holders + (if pinned == number then 1 else 0)

-- a number that is unpinned is held once less, and the others as often
abbrev pub UnpinningCounts : Type 0
UnpinningCounts =
    (unpinned number : ℕ) (holders : List ℕ)
    → times_held number (without_holder unpinned holders)
    ≡ times_held number holders - (if unpinned == number then 1 else 0)

-- a number that is held at all is a holder
abbrev pub CountedIsHeld : Type 0
CountedIsHeld = (number : ℕ) (holders : List ℕ) → 0 < times_held number holders → Contains holders number

-- the least holder follows from how often each number is held
abbrev pub LeastIsByCounts : Type 0
LeastIsByCounts =
    (most : ℕ) (holders others : List ℕ)
    → ((number : ℕ) → times_held number holders ≡ times_held number others) → least most holders ≡ least most others
