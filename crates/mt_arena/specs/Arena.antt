-- What a contract sees of an `Arena`, and what each call makes of it.
use Rattle.std.specs.Prelude.{◌≡◌, ◌≢◌, ℕ, ◌≤◌, ◌+◌, List, [], ◌∷◌, ◌++◌, None, IsSome, slice_set, All, AllPairs}
use Rattle.std.specs.List.Sorted.{IsNonDecreasingBy}
use Rattle.std.specs.Option.{option_map}
use Rattle.mt_border.specs.Border.{BorderView}
use Rattle.mt_interior.specs.Head.{HeadView}
use Rattle.mt_interior.specs.Interior.{InteriorView}
use Rattle.mt_types.specs.declared.numbers.NodeNo.{NodeNo}
use Rattle.mt_types.specs.declared.limits.TheConstants.{MAX_NODES}
use Rattle.mt_arena.specs.Node.{Nodes, node_at, occupied, with_node, Updates, NamesNoneFrom}
use Rattle.mt_arena.specs.declared.node.Node.{Node}
use Rattle.mt_arena.specs.declared.node.Node.TheVariants.{Head, Interior, Border}
use Rattle.mt_arena.specs.declared.retired.Retired.{Retired}

-- the nodes under their numbers, and those that are retired, in the order of their retiring
pub record ArenaView : Type 0 where
  pub nodes : Nodes
  pub retired : List Retired

-- what is seen of an arena with these fields
abbrev pub arena_view : Nodes → List Retired → ArenaView
arena_view nodes retired = record { nodes = nodes; retired = retired }

-- the arena once a number that names a node names this
abbrev pub with_node_at : ArenaView → ℕ → Node → ArenaView
with_node_at a number node = record a { nodes = with_node a.nodes number node }

-- a node whose part is changed so, if it is of that kind
abbrev pub head_changed : (HeadView → HeadView) → Node → Node
head_changed change (Head head) = Head (change head)
head_changed change (Interior interior) = Interior interior
head_changed change (Border border) = Border border

abbrev pub interior_changed : (InteriorView → InteriorView) → Node → Node
interior_changed change (Head head) = Head head
interior_changed change (Interior interior) = Interior (change interior)
interior_changed change (Border border) = Border border

abbrev pub border_changed : (BorderView → BorderView) → Node → Node
border_changed change (Head head) = Head head
border_changed change (Interior interior) = Interior interior
border_changed change (Border border) = Border (change border)

-- the arena once the node under a number is changed so
abbrev pub with_changed : (Node → Node) → ArenaView → ℕ → ArenaView
with_changed change a number = record a {
  nodes = slice_set a.nodes number
      (option_map change (node_at a.nodes number));
}

-- for callers: the arena once the head, the interior node or the border under a number is changed so
abbrev pub with_head_changed : ArenaView → ℕ → (HeadView → HeadView) → ArenaView
with_head_changed a number change = with_changed (head_changed change) a number

abbrev pub with_interior_changed : ArenaView → ℕ → (InteriorView → InteriorView) → ArenaView
with_interior_changed a number change = with_changed (interior_changed change) a number

abbrev pub with_border_changed : ArenaView → ℕ → (BorderView → BorderView) → ArenaView
with_border_changed a number change = with_changed (border_changed change) a number

-- the arena once a number names no node
abbrev pub without_node : ArenaView → ℕ → ArenaView
without_node a number = record a { nodes = slice_set a.nodes number None }

-- the arena once a node is retired in an epoch, as the last
abbrev pub with_retired : ArenaView → NodeNo → ℕ → ArenaView
with_retired a number epoch = record a { retired = a.retired ++ record { node = number; epoch = epoch } ∷ [] }

-- the node that was retired first is freed: its number names nothing, and every other what it named
pub record FreesFirst (a after : ArenaView) : Type 0 where
  pub first : Retired
  pub retired : a.retired ≡ first ∷ after.retired
  pub updates : Updates a.nodes after.nodes first.node.0 None
  pub fewer : occupied after.nodes + 1 ≡ occupied a.nodes

-- each retired node has its number still, and none is retired twice; their epochs do not fall
pub record AreRetired (nodes : Nodes) (retired : List Retired) : Type 0 where
  pub named : All (λ r. IsSome (node_at nodes r.node.0)) retired
  pub once : AllPairs (λ r later. r.node.0 ≢ later.node.0) retired
  pub epochs : IsNonDecreasingBy (λ r. r.epoch) retired

-- what holds of every arena
pub record IsArena (a : ArenaView) : Type 0 where
  pub below : NamesNoneFrom MAX_NODES a.nodes
  pub within : occupied a.nodes ≤ MAX_NODES
  pub retired : AreRetired a.nodes a.retired

-- what holds of every arena's fields: there is room for each node in the list of retired ones
pub record IsSoundArena (a : ArenaView) (room : ℕ) : Type 0 where
  pub arena : IsArena a
  pub room_for_all : occupied a.nodes ≤ room
