-- Laws of the log of a machine: it determines the rows at each earlier commit.
use Rattle.std.specs.Prelude.{ℕ, ◌+◌, ◌≡◌, ◌≤◌, List, slice_get, take, Some}
use Rattle.std.specs.FinMap.{get}
use Rattle.mt_types.specs.Rows.{after}
use Rattle.mt_types.specs.declared.row.Change.{Change}
use Rattle.mt_types.specs.declared.row.Delta.{Delta}
use Rattle.mt_promise.specs.History.{History, moment, rows}
use Rattle.mt_commit.specs.Log.{delta_of}
use Rattle.mt_commit.specs.Deltas.{Fits, redo, rows_at}
use Rattle.mt_commit.specs.Logged.{key_of}
use Rattle.mt_index.specs.Stands.{MachineView, Stands}

-- the present rows, with the deltas after a number that the log reaches undone from the newest to the oldest, are those
-- after the first `number` commits: so the last k deltas lead back to the rows before the last k commits
abbrev pub LogTellsThePast : Type 0
LogTellsThePast =
    (s : MachineView) (h : History) (number : ℕ) → Stands s h → s.log.held_after ≤ number
    → rows_at s.log (rows s.columns (moment h)) number ≡ after s.columns (take number (moment h).commits)

-- each delta that is so undone finds its row after the commit
abbrev pub LogFits : Type 0
LogFits = (s : MachineView) (h : History) → Stands s h → Fits s.log (rows s.columns (moment h))

-- the delta of the commit that follows the first `done`: its change's key, the row that the key had and the row that it
-- then has; and the rows then are the rows before with that row
pub record TellsOf (C : ℕ) (commits : List Change) (done : ℕ) (change : Change) (delta : Delta) : Type 0 where
  pub number : delta.number ≡ done + 1
  pub key : delta.key ≡ key_of change
  pub before : delta.before ≡ get (after C (take done commits)) (key_of change)
  pub then : delta.after ≡ get (after C (take (done + 1) commits)) (key_of change)
  pub made : after C (take (done + 1) commits) ≡ redo delta (after C (take done commits))

-- the log has the delta of each commit that it reaches, under its number
abbrev pub EachCommitIsLogged : Type 0
EachCommitIsLogged =
    (s : MachineView) (h : History) (done : ℕ) (change : Change) → Stands s h → s.log.held_after ≤ done
    → slice_get (moment h).commits done ≡ Some change
    → (delta : Delta)
    × (delta_of s.log (done + 1) ≡ Some delta) × TellsOf s.columns (moment h).commits done change delta
