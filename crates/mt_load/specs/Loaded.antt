-- An index into which rows were loaded.
use Rattle.std.specs.Prelude.{ℕ, ◌*◌, ◌≡◌, length}
use Rattle.mt_types.specs.Rows.{Rows}
use Rattle.mt_promise.specs.History.{History, moment, rows}
use Rattle.mt_promise.specs.Legal.{Legal}
use Rattle.mt_reach.specs.Reach.{IsClosedAt}
use Rattle.mt_index.specs.Stands.{MachineView, Stands}

-- THE INDEX HAS EXACTLY THESE ROWS AFTER n COMMITS. It is at a legal history of n commits that has them, each made by a call
-- of three events that has ended; and at each history of n such commits that has them, of however many events
pub record IsLoaded (C n : ℕ) (map : Rows) (s : MachineView) : Type 0 where
  pub columns : s.columns ≡ C
  pub h : History
  pub stands : Stands s h
  pub closed : IsClosedAt n h
  pub long : length h ≡ 3 * n
  pub has : rows C (moment h) ≡ map
  pub each : (other : History) → Legal C other → IsClosedAt n other → rows C (moment other) ≡ map → Stands s other
