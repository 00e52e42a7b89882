-- A machine that is said to be after another number of commits, whichever they were.
use Rattle.std.specs.Prelude.{ℕ, ◌≡◌}
use Rattle.mt_promise.specs.History.{History, moment, rows}
use Rattle.mt_promise.specs.Legal.{Legal}
use Rattle.mt_reach.specs.Reach.{IsClosedAt}
use Rattle.mt_commit.specs.Log.{begun_after, newest}
use Rattle.mt_index.specs.Stands.{MachineView, Stands}

-- the machine with the same rows, after n commits by as many calls
abbrev pub rebased : ℕ → MachineView → MachineView
rebased n s = record s { log = begun_after n s.log; calls = record s.calls { begun = n } }

-- a legal history of n commits, each by a call of its own that has ended, has the rows of another
pub record HasSameRows (C n : ℕ) (h other : History) : Type 0 where
  pub legal : Legal C other
  pub closed : IsClosedAt n other
  pub rows : rows C (moment other) ≡ rows C (moment h)

-- each of the machine's calls has made one commit and has ended, and there is such a history of its rows
abbrev pub CanBeAfter : ℕ → MachineView → Type 0
CanBeAfter n s =
    (h : History) × Stands s h × IsClosedAt (newest s.log) h × (other : History) × HasSameRows s.columns n h other
