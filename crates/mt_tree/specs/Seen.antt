-- The nodes of an arena as the theory of the tree sees them, and so the rows that the tree has.
use Rattle.std.specs.Prelude.{ℕ, List, map}
use Rattle.std.specs.Option.{option_map}
use Rattle.mt_types.specs.declared.row.Row.{Row}
use Rattle.mt_slice.specs.Place.{Place, last, deeper, place_of}
use Rattle.mt_border.specs.Border.{BorderView}
use Rattle.mt_border.specs.declared.entry.Content.{Content}
use Rattle.mt_border.specs.declared.entry.Content.TheVariants.{Short, Long, Link}
use Rattle.mt_border.specs.declared.entry.Entry.{Entry}
use Rattle.mt_border.specs.declared.entry.RightLink.{RightLink}
use Rattle.mt_interior.specs.Head.{HeadView}
use Rattle.mt_interior.specs.Interior.{InteriorView}
use Rattle.mt_interior.specs.declared.child.Child.{Child}
use Rattle.mt_arena.specs.Node.{node_at}
use Rattle.mt_arena.specs.Arena.{ArenaView}
use Rattle.mt_arena.specs.declared.node.Node.{Node}
use Rattle.mt_arena.specs.declared.node.Node.TheVariants.{Head, Interior, Border}
use Rattle.mt_chart.specs.Tree.{short, long, link, head, border, interior, Has, Arena}
use Rattle.mt_chart.specs.Tree.{PlainContent, PlainEntry, Right as PlainRight, PlainChild, PlainNode, HeadNode, BorderNode, InteriorNode}

-- what is at a slice: of a longer key's row, what follows the slice is seen as its place one layer deeper
abbrev pub content_seen : Content → PlainContent
content_seen (Short bytes row) = short bytes row
content_seen (Long suffix row) = long (place_of suffix) row
content_seen (Link top) = link top.0

abbrev pub entry_seen : Entry → PlainEntry
entry_seen entry = record { slice = entry.slice; content = content_seen entry.content }

abbrev pub entries_seen : List Entry → List PlainEntry
entries_seen entries = map entry_seen entries

abbrev pub right_seen : RightLink → PlainRight
right_seen right = record { low = right.low; number = right.node.0 }

abbrev pub child_seen : Child → PlainChild
child_seen child = record { low = child.low; number = child.node.0; level = child.level }

abbrev pub children_seen : List Child → List PlainChild
children_seen children = map child_seen children

abbrev pub head_seen : HeadView → HeadNode
head_seen h = record { deleted = h.version.deleted; locked = h.version.locked; root = h.root.0; level = h.level }

abbrev pub border_seen : BorderView → BorderNode
border_seen b =
    record {
      deleted = b.version.deleted;
      locked = b.version.locked;
      low = b.low;
      entries = entries_seen b.live;
      right = option_map right_seen b.right;
    }

abbrev pub interior_seen : InteriorView → InteriorNode
interior_seen i =
    record {
      deleted = i.version.deleted;
      locked = i.version.locked;
      low = i.low;
      level = i.level;
      children = children_seen i.children;
    }

abbrev pub node_seen : Node → PlainNode
node_seen (Head h) = head (head_seen h)
node_seen (Interior i) = interior (interior_seen i)
node_seen (Border b) = border (border_seen b)

-- the node under each number
abbrev pub arena_seen : ArenaView → Arena
arena_seen a number = option_map node_seen (node_at a.nodes number)

-- the place in its layer of the key of an entry with a row; of a link, which has no key of its own, the place before
-- all that is deeper
abbrev pub content_place : ℕ → Content → Place
content_place slice (Short bytes row) = last slice bytes
content_place slice (Long suffix row) = deeper slice (place_of suffix)
content_place slice (Link top) = last slice 9

abbrev pub entry_place : Entry → Place
entry_place entry = content_place entry.slice entry.content

-- THE TREE HAS THE ROW AT THE KEY: from the head of layer 0 links lead to a layer, in it first children and right links
-- to a border, and a live entry there holds the row under the key
abbrev pub HasRow : ArenaView → List ℕ → Row → Type 0
HasRow a key row = Has (arena_seen a) (place_of key) row
