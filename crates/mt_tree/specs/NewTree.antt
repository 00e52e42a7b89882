-- A new tree.
use Rattle.std.specs.Prelude.{ℕ, ◌≡◌, ◌≢◌, ◌<◌, Some, None, [], false}
use Rattle.mt_types.specs.declared.numbers.NodeNo.{NodeNo}
use Rattle.mt_border.specs.Border.{new_border}
use Rattle.mt_interior.specs.Head.{new_head}
use Rattle.mt_arena.specs.Node.{node_at, head_at, border_at}
use Rattle.mt_arena.specs.Arena.{ArenaView}

-- the head of layer 0, over one empty border, and no other node; nothing is locked or retired
pub record IsNewTree (a : ArenaView) : Type 0 where
  pub root : NodeNo
  pub another : 0 < root.0
  pub top : head_at a.nodes 0 ≡ Some (new_head root 0 false)
  pub below : border_at a.nodes root.0 ≡ Some (new_border 0 0 false)
  pub rest : (number : ℕ) → number ≢ 0 → number ≢ root.0 → node_at a.nodes number ≡ None
  pub retired : a.retired ≡ []
