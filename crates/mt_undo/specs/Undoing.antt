-- What undoing the last puts leaves of a tree and of its log.
use Rattle.std.specs.Prelude.{ℕ, ◌≡◌, ◌≤◌, ◌↔◌, List, [], ◌++◌, length, drop, Some, All}
use Rattle.std.specs.FinMap.{get}
use Rattle.std.specs.List.{AllByRecursion}
use Rattle.mt_types.specs.Rows.{after}
use Rattle.mt_types.specs.declared.row.Row.{Row}
use Rattle.mt_types.specs.declared.row.Change.{Change}
use Rattle.mt_types.specs.declared.row.Change.TheVariants.{Put, Drop}
use Rattle.mt_slice.specs.Place.{AreBytes}
use Rattle.mt_commit.specs.Log.{LogView, newest}
use Rattle.mt_commit.specs.Logged.{deltas_of}
use Rattle.mt_arena.specs.Arena.{ArenaView}
use Rattle.mt_tree.specs.Seen.{HasRow}
use Rattle.mt_steps.specs.Lone.{IsLoneTree}

abbrev pub IsPut : Change → Type 0
IsPut (Put key sets) = Unit {0}
IsPut (Drop key) = ⊥

-- the tree has exactly the rows after these changes of an index of C columns
abbrev pub HasRowsAfter : ℕ → List Change → ArenaView → Type 0
HasRowsAfter C changes a = (key : List ℕ) → AreBytes key → (row : Row) → HasRow a key row
    ↔ (get (after C changes) key ≡ Some row)

-- the tree and the log have made these changes
pub record HaveMade (C : ℕ) (changes : List Change) (a : ArenaView) (log : LogView) : Type 0 where
  pub rows : HasRowsAfter C changes a
  pub logged : log.deltas ≡ drop log.held_after (deltas_of C changes)
  pub newest : newest log ≡ length changes

-- the last of them, after the first `commits`, were puts, of which the log has each delta
pub record CanGoBack (C : ℕ) (first puts : List Change) (commits rows : ℕ) (a : ArenaView) (log : LogView) : Type 0 where
  pub made : HaveMade C (first ++ puts) a log
  pub are_puts : AllByRecursion IsPut puts
  pub many : length first ≡ commits
  pub held : log.held_after ≤ commits
  pub keeps : log.base ≡ log.held_after
  pub holders : All (λ holder. holder ≤ commits) log.holders
  pub few : rows ≤ commits
  pub counted : puts ≡ [] → log.rows ≡ rows

-- one put less, and no change is under way, in the same epoch
pub record GoesBack (C : ℕ) (first puts : List Change) (commits rows now : ℕ) (log : LogView) (a : ArenaView)
    (left : LogView) : Type 0 where
  pub lone : IsLoneTree a
  pub same_now : lone.now ≡ now
  pub can : CanGoBack C first puts commits rows a left
  pub same_log : left ≡ record log { deltas = left.deltas; rows = rows }

-- they are as they were after the first changes, and no change is under way, in the same epoch
pub record HaveGoneBack (C : ℕ) (first : List Change) (rows now : ℕ) (log : LogView) (a : ArenaView) (left : LogView)
    : Type 0 where
  pub lone : IsLoneTree a
  pub same_now : lone.now ≡ now
  pub made : HaveMade C first a left
  pub same_log : left ≡ record log { deltas = left.deltas; rows = rows }
