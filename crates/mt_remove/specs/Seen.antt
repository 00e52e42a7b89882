-- What a tidy sees of an interior, and what it reads of a field of a border that it has locked.
use Rattle.std.specs.Prelude.{ℕ, ◌==◌, ◌&&◌, not, if◌then◌else◌, Bool, true, false, List, [], ◌∷◌, Option, Some, None, position}
use Rattle.std.specs.Option.{option_and_then}
use Rattle.mt_types.specs.declared.numbers.NodeNo.{NodeNo}
use Rattle.mt_border.specs.declared.field.Mark.{Mark}
use Rattle.mt_border.specs.declared.field.Mark.TheVariants.{Layer}
use Rattle.mt_border.specs.declared.entry.Content.{Content}
use Rattle.mt_border.specs.declared.entry.Content.TheVariants.{Short, Long, Link}
use Rattle.mt_border.specs.Keys.{KeyView}
use Rattle.mt_interior.specs.Interior.{InteriorView}
use Rattle.mt_interior.specs.declared.child.Child.{Child}
use Rattle.mt_arena.specs.declared.node.Node.{Node}
use Rattle.mt_arena.specs.declared.node.Node.TheVariants.{Head, Interior, Border}

-- the interior that a node is, if it is neither marked deleted nor locked
abbrev pub free_interior : Node → Option InteriorView
free_interior (Head head) = None
free_interior (Interior i) = if i.version.deleted then None else (if i.version.locked then None else Some i)
free_interior (Border border) = None

-- these children are the node alone
abbrev pub is_only : NodeNo → List Child → Bool
is_only node [] = false
is_only node (child ∷ []) = child.node.0 == node.0
is_only node (child ∷ other ∷ children) = false

-- such an interior has the node as its only child
abbrev pub lone_of : NodeNo → Option InteriorView → Bool
lone_of node None = false
lone_of node (Some i) = is_only node i.children

abbrev pub is_lone : Node → NodeNo → Bool
is_lone node child = lone_of child (free_interior node)

-- the place of the node among its children
abbrev pub place_in : Node → NodeNo → Option ℕ
place_in node child =
    option_and_then (λ i. position (λ (c : Child). c.node.0 == child.0) i.children) (free_interior node)

-- the place, if it is not the first
abbrev pub not_first : Option ℕ → Option ℕ
not_first None = None
not_first (Some place) = if place == 0 then None else Some place

abbrev pub later_place : Node → NodeNo → Option ℕ
later_place node child = not_first (place_in node child)

-- the node is a border that is neither marked deleted nor locked
abbrev pub is_free_border : Node → Bool
is_free_border (Head head) = false
is_free_border (Interior i) = false
is_free_border (Border b) = not b.version.deleted && not b.version.locked

-- the key leads below from the slice
abbrev pub is_layer : Mark → Bool
is_layer Layer = true
is_layer _ = false

abbrev pub leads_below : ℕ → KeyView → Bool
leads_below slice key = is_layer key.mark && (key.slice == slice)

-- the head to which a value leads, if it is a link
abbrev pub link_of : Content → Option NodeNo
link_of (Short bytes row) = None
link_of (Long suffix row) = None
link_of (Link head) = Some head
