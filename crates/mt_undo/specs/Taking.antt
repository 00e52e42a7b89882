-- What taking back a change of a key leaves.
use Rattle.std.specs.Prelude.{ℕ, ◌≡◌, ◌≢◌, ◌≤◌, ◌↔◌, List, length, Option, Some}
use Rattle.mt_types.specs.declared.limits.TheConstants.{MAX_KEY_BYTES}
use Rattle.mt_types.specs.declared.row.Row.{Row}
use Rattle.mt_slice.specs.Place.{AreBytes}
use Rattle.mt_arena.specs.Arena.{ArenaView}
use Rattle.mt_arena.specs.Node.{border_at}
use Rattle.mt_border.specs.Border.{BorderView}
use Rattle.mt_border.specs.Order.{IsBorder}
use Rattle.mt_border.specs.declared.found.Found.TheVariants.{Row as RowFound}
use Rattle.mt_tree.specs.Descent.{found_for}
use Rattle.mt_tree.specs.Seen.{HasRow}
use Rattle.mt_steps.specs.Lone.{IsLoneTree}
use Rattle.mt_steps.specs.Step.{RowIs}
use Rattle.mt_steps.specs.Way.{IsAtPlace, rest_of}
use Rattle.mt_steps.specs.declared.way.Way.{Way}

-- the number is the border of a key, and its entry is at this place there
pub record IsEntryOf (a : ArenaView) (key : List ℕ) (number place : ℕ) : Type 0 where
  pub bytes : AreBytes key
  pub fits : length key ≤ MAX_KEY_BYTES
  pub lone : IsLoneTree a
  pub way : Way
  pub number_is : number ≡ way.node.0
  pub at : IsAtPlace a key way lone.w
  pub border : BorderView
  pub named : border_at a.nodes way.node.0 ≡ Some border
  pub sound : IsBorder border
  pub found : RowFound place ≡ found_for (rest_of key way) border.live

-- the key has this row, or none; each other key has the row that it had; and no change is under way, in the same epoch
pub record IsTakenBack (a : ArenaView) (key : List ℕ) (before : Option Row) (now : ℕ) (after : ArenaView) : Type 0 where
  pub lone : IsLoneTree after
  pub same_now : lone.now ≡ now
  pub own : RowIs after key before
  pub others : (other : List ℕ) → AreBytes other → other ≢ key → (row : Row) → HasRow after other row ↔ HasRow a other row
