-- The nodes under their numbers.
use Rattle.std.specs.Prelude.{◌≡◌, ◌≢◌, ℕ, ◌≤◌, List, Option, Some, None, slice_index_or, slice_set, count_by, is_some}
use Rattle.std.specs.Option.{option_and_then}
use Rattle.mt_border.specs.Border.{BorderView}
use Rattle.mt_border.specs.Order.{IsBorder}
use Rattle.mt_interior.specs.Head.{HeadView, IsHead}
use Rattle.mt_interior.specs.Interior.{InteriorView, IsInterior}
use Rattle.mt_arena.specs.declared.node.Node.{Node}
use Rattle.mt_arena.specs.declared.node.Node.TheVariants.{Head, Interior, Border}

-- what each number names, from 0 on; a number past the end names no node
abbrev pub Nodes : Type 0
Nodes = List (Option Node)

-- the node under a number
abbrev pub node_at : Nodes → ℕ → Option Node
node_at nodes number = slice_index_or nodes number None

-- the head, the interior node or the border that a node is
abbrev pub head_of : Node → Option HeadView
head_of (Head head) = Some head
head_of (Interior interior) = None
head_of (Border border) = None

abbrev pub interior_of : Node → Option InteriorView
interior_of (Head head) = None
interior_of (Interior interior) = Some interior
interior_of (Border border) = None

abbrev pub border_of : Node → Option BorderView
border_of (Head head) = None
border_of (Interior interior) = None
border_of (Border border) = Some border

-- the same of the node under a number
abbrev pub head_at : Nodes → ℕ → Option HeadView
head_at nodes number = option_and_then head_of (node_at nodes number)

abbrev pub interior_at : Nodes → ℕ → Option InteriorView
interior_at nodes number = option_and_then interior_of (node_at nodes number)

abbrev pub border_at : Nodes → ℕ → Option BorderView
border_at nodes number = option_and_then border_of (node_at nodes number)

-- what holds of every node
abbrev pub IsNode : Node → Type 0
IsNode (Head head) = IsHead head
IsNode (Interior interior) = IsInterior interior
IsNode (Border border) = IsBorder border

-- how many numbers name a node
abbrev pub occupied : Nodes → ℕ
occupied nodes = count_by is_some nodes

-- the nodes once a number that names one names this
abbrev pub with_node : Nodes → ℕ → Node → Nodes
with_node nodes number node = slice_set nodes number (Some node)

-- the number names this, and every other number what it named
pub record Updates (old new : Nodes) (number : ℕ) (node : Option Node) : Type 0 where
  pub changed : node_at new number ≡ node
  pub others : (other : ℕ) → other ≢ number → node_at new other ≡ node_at old other

-- no number from this one on names a node
pub record NamesNoneFrom (limit : ℕ) (nodes : Nodes) : Type 0 where
  pub each : (number : ℕ) → limit ≤ number → node_at nodes number ≡ None
