-- That a step of a call changes at most one node, and of a border at most one field, so that a call beside it sees no
-- change by halves.
use Rattle.std.specs.Prelude.{ℕ, ◌≡◌, ◌≢◌, Option, Some, IsSome, IsSomeAnd}
use Rattle.mt_border.specs.Border.{BorderView}
use Rattle.mt_arena.specs.Node.{node_at, border_at}
use Rattle.mt_arena.specs.Arena.{ArenaView}
use Rattle.mt_chart.specs.Chart.{Chart}
use Rattle.mt_tree.specs.OneField.{ChangesOneField}

-- AT MOST ONE NODE CHANGES of those that the chart knows: each other is as before. If it is a border, it is a border
-- still, at most one field of it changes, and its low does not. The chart knows each node that is linked, or was and is
-- not freed yet: all that other calls read. It doesn't know the spare nodes of a call.
pub record ChangesOneNode (commit : Option ℕ) (chart : Chart) (a after : ArenaView) : Type 0 where
  pub number : ℕ
  pub border : (b : BorderView) → IsSome (chart number) → border_at a.nodes number ≡ Some b
      → IsSomeAnd (border_at after.nodes number) (λ then. (then.low ≡ b.low) × ChangesOneField commit b then)
  pub others : (other : ℕ) → other ≢ number → IsSome (chart other) → node_at after.nodes other ≡ node_at a.nodes other
