-- The border in which the way of a key ends.
use Rattle.std.specs.Prelude.{ℕ, zero, suc, ◌≡◌, ◌==◌, Bool, List, Some, length}
use Rattle.mt_border.specs.Border.{BorderView}
use Rattle.mt_arena.specs.Arena.{ArenaView}
use Rattle.mt_arena.specs.Node.{border_at}
use Rattle.mt_steps.specs.declared.way.Way.{Way}
use Rattle.mt_steps.specs.declared.way.Went.TheVariants.{Here, To}
use Rattle.mt_steps.specs.Way.{VisitIs, start}

-- from the head of layer 0, this many visits of a node each lead to the next, and so to this place
abbrev pub Reaches : ArenaView → List ℕ → ℕ → Way → Type 0
Reaches a key zero way = way ≡ start
Reaches a key (suc visits) way = (before : Way) × Reaches a key visits before × VisitIs a key before (To way)

-- the way of the key ends in this border
pub record EndsIn (a : ArenaView) (key : List ℕ) (b : BorderView) : Type 0 where
  pub visits : ℕ
  pub way : Way
  pub reaches : Reaches a key visits way
  pub ends : VisitIs a key way Here
  pub is : border_at a.nodes way.node.0 ≡ Some b

-- whether the border in which the way of the key ends has no entry
pub record IsEmptied (a : ArenaView) (key : List ℕ) (empty : Bool) : Type 0 where
  pub border : BorderView
  pub ends_in : EndsIn a key border
  pub answer : empty ≡ (length border.live == 0)
