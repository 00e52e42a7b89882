-- A tree on which one call alone runs: nobody else has left anything half done.
use Rattle.std.specs.Prelude.{ℕ, List, Option, [], None}
use Rattle.mt_types.specs.declared.event.Answer.{Answer}
use Rattle.mt_types.specs.declared.event.Request.{Request}
use Rattle.mt_arena.specs.Arena.{ArenaView}
use Rattle.mt_steps.specs.World.{World, IsWorld, IsTaken}
use Rattle.mt_steps.specs.Step.{IsRight, RowIs}
use Rattle.mt_steps.specs.Way.{IsOnWay}
use Rattle.mt_steps.specs.declared.way.Way.{Way}
use Rattle.mt_types.specs.declared.row.Row.{Row}

-- the tree is an index, and nothing in it is taken: no node is locked, there is no spare, no layer is being taken out
pub record IsLoneTree (a : ArenaView) : Type 0 where
  pub now : ℕ
  pub w : World
  pub world : IsWorld a now w
  pub free : (number : ℕ) → IsTaken a w number → ⊥

-- the answer is right for the rows that the tree has
abbrev pub IsRightNow : ArenaView → Request → Answer → Type 0
IsRightNow a request answer = IsRight [] a request None answer

-- a search for the row of a key is at its end, with this row or none
pub record EndsAt (a : ArenaView) (key : List ℕ) (way : Way) (found : Option Row) : Type 0 where
  pub ends : (now : ℕ) (w : World) (begun : ℕ) → IsWorld a now w → IsOnWay begun key way w → RowIs a key found
