-- What each step on a node does to the arena and to the chart.
use Rattle.std.specs.Prelude.{ℕ, suc, ◌≡◌, ◌≢◌, ◌<◌, ◌≤◌, ◌⊎◌, ◌↔◌, List, [], ◌∷◌, Some, None, Bool, true, false}
use Rattle.mt_slice.specs.Place.{Place, under}
use Rattle.mt_types.specs.declared.row.Row.{Row}
use Rattle.mt_chart.specs.Tree.{link, long, PlainEntry, HeadNode, BorderNode, PlainChild, InteriorNode, head, border, interior, Arena, Among, Below, HoldsRow, Has}
use Rattle.mt_chart.specs.Chart.{on, gone, Role, top, at_level, Spot, spot, Chart, OnHead, OnBorder, class, FirstLow, IsTree, NoChildTwice, Owns, Owned, Named, IsLastBorder, MarkedHeads, Dated, Evolves, Changes}

-- the two halves of an interior that is being split
pub record Twin : Type 0 where
  pub one : ℕ
  pub other : ℕ

-- these two stand among the pairs
abbrev pub AreTwins : List Twin → ℕ → ℕ → Type 0
AreTwins twins one other = Among (record { one = one; other = other }) twins

-- WHAT HOLDS BETWEEN TWO STEPS in an epoch: the invariant; each node has one owner, but for the twins; what is on in
-- the tree of a layer is named; a layer whose head is marked deleted has one border; and nobody went later than now.
pub record IsIndex (now : ℕ) (twins : List Twin) (arena : Arena) (chart : Chart) : Type 0 where
  pub tree : IsTree arena chart
  pub owned : Owned arena chart (AreTwins twins)
  pub named : Named arena chart
  pub marked : MarkedHeads arena chart
  pub dated : Dated chart now

-- the two arenas have the same rows
abbrev pub SameContent : Arena → Arena → Type 0
SameContent arena after = (key : Place) (row : Row) → Has after key row ↔ Has arena key row

-- WHAT A STEP KEEPS that changes no key's row: it leads to an index with these twins, with the same content, and every
-- call that is open may rely on the chart.
pub record Keeps (now : ℕ) (twins : List Twin) (arena after : Arena) (chart next : Chart) : Type 0 where
  pub index : IsIndex now twins after next
  pub content : SameContent arena after
  pub evolves : (begun : ℕ) → begun ≤ now → Evolves begun chart next

-- a border that is on is written: it keeps its low, and is empty if it is marked deleted
pub record WritesBorder (arena after : Arena) (chart : Chart) (number : ℕ) (prefix : List ℕ)
    (old new : BorderNode) : Type 0 where
  pub stands : OnBorder arena chart number prefix old
  pub written : Changes arena after number (Some (border new))
  pub low : new.low ≡ old.low
  pub empty : new.deleted ≡ true → new.entries ≡ []

-- a border is locked, unlocked or marked deleted
pub record MarksBorder (arena after : Arena) (chart : Chart) : Type 0 where
  pub number : ℕ
  pub prefix : List ℕ
  pub old : BorderNode
  pub new : BorderNode
  pub writes : WritesBorder arena after chart number prefix old new
  pub right : new.right ≡ old.right
  pub entries : new.entries ≡ old.entries

-- a row is shown at a key: a border has one more entry, in its interval, of a slice and class that it lacked
pub record ShowsRow (arena after : Arena) (chart : Chart) (key : Place) (row : Row) : Type 0 where
  pub number : ℕ
  pub prefix : List ℕ
  pub old : BorderNode
  pub new : BorderNode
  pub writes : WritesBorder arena after chart number prefix old new
  pub right : new.right ≡ old.right
  pub entry : PlainEntry
  pub place : Place
  pub is_key : key ≡ under prefix place
  pub holds : HoldsRow entry.slice entry.content place row
  pub entries : (each : PlainEntry) → Among each new.entries ↔ ((each ≡ entry) ⊎ Among each old.entries)
  pub lacked : (each : PlainEntry) → Among each old.entries → each.slice ≡ entry.slice →
      class each.content ≢ class entry.content
  pub from_low : old.low ≤ entry.slice
  pub to_right : Below entry.slice old.right

-- the row at a key is hidden: a border has one entry less
pub record HidesRow (arena after : Arena) (chart : Chart) (key : Place) (row : Row) : Type 0 where
  pub number : ℕ
  pub prefix : List ℕ
  pub old : BorderNode
  pub new : BorderNode
  pub writes : WritesBorder arena after chart number prefix old new
  pub right : new.right ≡ old.right
  pub entry : PlainEntry
  pub place : Place
  pub is_key : key ≡ under prefix place
  pub holds : HoldsRow entry.slice entry.content place row
  pub stood : Among entry old.entries
  pub entries : (each : PlainEntry) → Among each new.entries ↔ (Among each old.entries × (each ≢ entry))

-- a row at a key is replaced by another: a border has one entry instead of another, of the same slice and class
pub record SetsRow (arena after : Arena) (chart : Chart) (key : Place) (before row : Row) : Type 0 where
  pub number : ℕ
  pub prefix : List ℕ
  pub old : BorderNode
  pub new : BorderNode
  pub writes : WritesBorder arena after chart number prefix old new
  pub right : new.right ≡ old.right
  pub entry : PlainEntry
  pub set : PlainEntry
  pub place : Place
  pub is_key : key ≡ under prefix place
  pub holds : HoldsRow entry.slice entry.content place before
  pub set_holds : HoldsRow set.slice set.content place row
  pub stood : Among entry old.entries
  pub entries : (each : PlainEntry) → Among each new.entries
      ↔ ((each ≡ set) ⊎ (Among each old.entries × (each ≢ entry)))

-- The link step of a split: a border keeps the lower of its entries, and its right link names a filled border with the
-- upper ones, which comes to be on but is not to be named by a head or an interior. No head that is marked deleted has
-- it for its root.
pub record LinksHalf (arena after : Arena) (chart next : Chart) : Type 0 where
  pub number : ℕ
  pub prefix : List ℕ
  pub old : BorderNode
  pub new : BorderNode
  pub writes : WritesBorder arena after chart number prefix old new
  pub half_number : ℕ
  pub half : BorderNode
  pub filled : arena half_number ≡ Some (border half)
  pub unknown : chart half_number ≡ None
  pub charted : Changes chart next half_number (Some (spot (at_level 0) prefix half.low (on false)))
  pub right : new.right ≡ Some (record { low = half.low; number = half_number })
  pub half_right : half.right ≡ old.right
  pub above : old.low < half.low
  pub below : Below half.low old.right
  pub parts : (entry : PlainEntry) → Among entry old.entries ↔ (Among entry new.entries ⊎ Among entry half.entries)
  pub lower : (entry : PlainEntry) → Among entry new.entries → entry.slice < half.low
  pub upper : (entry : PlainEntry) → Among entry half.entries → half.low ≤ entry.slice
  pub half_empty : half.deleted ≡ true → half.entries ≡ []
  pub head_alive : (top_number : ℕ) (top_node : HeadNode) → OnHead chart top_number prefix →
      arena top_number ≡ Some (head top_node) → top_node.root ≡ number → top_node.deleted ≡ false

-- A new layer: in a border a link replaces the row of a longer key. The link names a filled head, whose root is a
-- filled border with that row alone, one layer deeper. The head and that border are then on.
pub record MakesLayer (arena after : Arena) (chart next : Chart) : Type 0 where
  pub number : ℕ
  pub prefix : List ℕ
  pub old : BorderNode
  pub new : BorderNode
  pub writes : WritesBorder arena after chart number prefix old new
  pub right : new.right ≡ old.right
  pub slice : ℕ
  pub rest : Place
  pub row : Row
  pub top_number : ℕ
  pub top_node : HeadNode
  pub root_number : ℕ
  pub root : BorderNode
  pub entry : PlainEntry
  pub stood : Among (record { slice = slice; content = long rest row }) old.entries
  pub entries : (each : PlainEntry) → Among each new.entries ↔
      ((each ≡ record { slice = slice; content = link top_number })
      ⊎ (Among each old.entries × (each ≢ record { slice = slice; content = long rest row })))
  pub top_filled : arena top_number ≡ Some (head top_node)
  pub root_filled : arena root_number ≡ Some (border root)
  pub two_numbers : top_number ≢ root_number
  pub top_unknown : chart top_number ≡ None
  pub root_unknown : chart root_number ≡ None
  pub top_charted : next top_number ≡ Some (spot top (slice ∷ prefix) 0 (on true))
  pub root_charted : next root_number ≡ Some (spot (at_level 0) (slice ∷ prefix) 0 (on true))
  pub others : (other : ℕ) → other ≢ top_number → other ≢ root_number → next other ≡ chart other
  pub names_root : top_node.root ≡ root_number
  pub level : top_node.level ≡ 0
  pub root_low : root.low ≡ 0
  pub root_right : root.right ≡ None
  pub root_alive : root.deleted ≡ false
  pub root_entries : root.entries ≡ entry ∷ []
  pub holds : HoldsRow entry.slice entry.content rest row

-- A border that is marked deleted, and that no head or interior may name, is taken out of its chain: the border before
-- it takes its right link, and it goes.
pub record Unlinks (now : ℕ) (arena after : Arena) (chart next : Chart) : Type 0 where
  pub number : ℕ
  pub prefix : List ℕ
  pub old : BorderNode
  pub new : BorderNode
  pub stands : OnBorder arena chart number prefix old
  pub written : Changes arena after number (Some (border new))
  pub low : new.low ≡ old.low
  pub entries : new.entries ≡ old.entries
  pub deleted : new.deleted ≡ old.deleted
  pub gone_number : ℕ
  pub gone_node : BorderNode
  pub there : arena gone_number ≡ Some (border gone_node)
  pub dropped : chart gone_number ≡ Some (spot (at_level 0) prefix gone_node.low (on false))
  pub charted : Changes chart next gone_number (Some (spot (at_level 0) prefix gone_node.low (gone now)))
  pub marked : gone_node.deleted ≡ true
  pub was_right : old.right ≡ Some (record { low = gone_node.low; number = gone_number })
  pub right : new.right ≡ gone_node.right

-- A layer is taken out: a border hides its link to a head that is marked deleted, whose root is the layer's only
-- border, empty and marked deleted. Head and border go.
pub record DropsLayer (now : ℕ) (twins : List Twin) (arena after : Arena) (chart next : Chart) : Type 0 where
  pub number : ℕ
  pub prefix : List ℕ
  pub old : BorderNode
  pub new : BorderNode
  pub stands : OnBorder arena chart number prefix old
  pub written : Changes arena after number (Some (border new))
  pub low : new.low ≡ old.low
  pub right : new.right ≡ old.right
  pub deleted : new.deleted ≡ old.deleted
  pub slice : ℕ
  pub top_number : ℕ
  pub top_node : HeadNode
  pub root_number : ℕ
  pub root : BorderNode
  pub stood : Among (record { slice = slice; content = link top_number }) old.entries
  pub entries : (each : PlainEntry) → Among each new.entries
      ↔ (Among each old.entries × (each ≢ record { slice = slice; content = link top_number }))
  pub top_on : OnHead chart top_number (slice ∷ prefix)
  pub top_there : arena top_number ≡ Some (head top_node)
  pub top_deleted : top_node.deleted ≡ true
  pub names_root : top_node.root ≡ root_number
  pub root_on : OnBorder arena chart root_number (slice ∷ prefix) root
  pub root_low : root.low ≡ 0
  pub root_right : root.right ≡ None
  pub root_entries : root.entries ≡ []
  pub root_deleted : root.deleted ≡ true
  pub no_twin : (other : ℕ) → AreTwins twins other top_number → ⊥
  pub top_goes : next top_number ≡ Some (spot top (slice ∷ prefix) 0 (gone now))
  pub root_goes : next root_number ≡ Some (spot (at_level 0) (slice ∷ prefix) 0 (gone now))
  pub others : (other : ℕ) → other ≢ top_number → other ≢ root_number → next other ≡ chart other

-- an interior that is on, of the level `suc below`, takes other children
pub record WritesInterior (arena after : Arena) (chart : Chart) (number below : ℕ) (prefix : List ℕ) (least : ℕ)
    (old new : InteriorNode) : Type 0 where
  pub posted : Bool
  pub place : chart number ≡ Some (spot (at_level (suc below)) prefix least (on posted))
  pub there : arena number ≡ Some (interior old)
  pub written : Changes arena after number (Some (interior new))
  pub low : new.low ≡ least
  pub level : new.level ≡ suc below
  pub leftmost : FirstLow least new.children
  pub once : NoChildTwice new.children

-- an interior is no twin
abbrev pub NoTwin : List Twin → ℕ → Type 0
NoTwin twins number = ((other : ℕ) → AreTwins twins other number → ⊥) × ((other : ℕ) → AreTwins twins number other → ⊥)

-- an empty border is dropped from the interior that named it: it stays in its chain, and no head or interior names it
pub record DropsChild (twins : List Twin) (arena after : Arena) (chart next : Chart) : Type 0 where
  pub number : ℕ
  pub below : ℕ
  pub prefix : List ℕ
  pub least : ℕ
  pub old : InteriorNode
  pub new : InteriorNode
  pub writes : WritesInterior arena after chart number below prefix least old new
  pub child : PlainChild
  pub low : ℕ
  pub stood : Among child old.children
  pub place : chart child.number ≡ Some (spot (at_level 0) prefix low (on true))
  pub charted : Changes chart next child.number (Some (spot (at_level 0) prefix low (on false)))
  pub children : (each : PlainChild) → Among each new.children
      ↔ (Among each old.children × (each.number ≢ child.number))
  pub no_twin : NoTwin twins number

-- a border that no head or interior may name is posted in an interior
pub record PostsBorder (arena after : Arena) (chart next : Chart) : Type 0 where
  pub number : ℕ
  pub below : ℕ
  pub prefix : List ℕ
  pub least : ℕ
  pub old : InteriorNode
  pub new : InteriorNode
  pub writes : WritesInterior arena after chart number below prefix least old new
  pub posted_number : ℕ
  pub low : ℕ
  pub place : chart posted_number ≡ Some (spot (at_level 0) prefix low (on false))
  pub charted : Changes chart next posted_number (Some (spot (at_level 0) prefix low (on true)))
  pub children : (each : PlainChild) → Among each new.children
      ↔ ((each ≡ record { low = low; number = posted_number; level = 0 }) ⊎ Among each old.children)

-- an interior with one child, locked, is bypassed: the interior above names that child in its place, and it goes
pub record Bypasses (now : ℕ) (twins : List Twin) (arena after : Arena) (chart next : Chart) : Type 0 where
  pub number : ℕ
  pub below : ℕ
  pub prefix : List ℕ
  pub least : ℕ
  pub old : InteriorNode
  pub new : InteriorNode
  pub writes : WritesInterior arena after chart number below prefix least old new
  pub gone_number : ℕ
  pub gone_below : ℕ
  pub low : ℕ
  pub posted : Bool
  pub gone_node : InteriorNode
  pub child : PlainChild
  pub place : chart gone_number ≡ Some (spot (at_level (suc gone_below)) prefix low (on posted))
  pub there : arena gone_number ≡ Some (interior gone_node)
  pub locked : gone_node.locked ≡ true
  pub one_child : gone_node.children ≡ child ∷ []
  pub charted : Changes chart next gone_number (Some (spot (at_level (suc gone_below)) prefix low (gone now)))
  pub entry : PlainChild
  pub stood : Among entry old.children
  pub named : entry.number ≡ gone_number
  pub children : (each : PlainChild) → Among each new.children
      ↔ ((each ≡ child) ⊎ (Among each old.children × (each.number ≢ gone_number)))
  pub no_twin : NoTwin twins number
  pub gone_no_twin : NoTwin twins gone_number

-- a head that is on is written
pub record WritesHead (arena after : Arena) (chart : Chart) (number : ℕ) (prefix : List ℕ)
    (old new : HeadNode) : Type 0 where
  pub place : OnHead chart number prefix
  pub there : arena number ≡ Some (head old)
  pub written : Changes arena after number (Some (head new))

-- a head is locked, unlocked or, if its root is a border with nothing to its right, marked deleted
pub record MarksHead (arena after : Arena) (chart : Chart) : Type 0 where
  pub number : ℕ
  pub prefix : List ℕ
  pub old : HeadNode
  pub new : HeadNode
  pub writes : WritesHead arena after chart number prefix old new
  pub root : new.root ≡ old.root
  pub level : new.level ≡ old.level
  pub last : new.deleted ≡ true → (old.deleted ≡ true) ⊎ IsLastBorder arena old.root

-- a root, an interior with one child, locked, is bypassed: the head names that child in its place, and it goes
pub record BypassesRoot (now : ℕ) (twins : List Twin) (arena after : Arena) (chart next : Chart) : Type 0 where
  pub number : ℕ
  pub prefix : List ℕ
  pub old : HeadNode
  pub new : HeadNode
  pub writes : WritesHead arena after chart number prefix old new
  pub gone_number : ℕ
  pub gone_below : ℕ
  pub gone_node : InteriorNode
  pub child : PlainChild
  pub was_root : old.root ≡ gone_number
  pub place : chart gone_number ≡ Some (spot (at_level (suc gone_below)) prefix 0 (on true))
  pub there : arena gone_number ≡ Some (interior gone_node)
  pub locked : gone_node.locked ≡ true
  pub one_child : gone_node.children ≡ child ∷ []
  pub charted : Changes chart next gone_number (Some (spot (at_level (suc gone_below)) prefix 0 (gone now)))
  pub root : new.root ≡ child.number
  pub level : new.level ≡ child.level
  pub deleted : new.deleted ≡ old.deleted
  pub no_twin : NoTwin twins number
  pub gone_no_twin : NoTwin twins gone_number

-- A new root: a head names a filled interior instead of the old root. Its two children are the old root and a border
-- that no head or interior may name. Between the two changes of the chart, the border may be named and the interior is
-- unknown.
pub record MakesRoot (twins : List Twin) (arena after : Arena) (chart between next : Chart) : Type 0 where
  pub number : ℕ
  pub prefix : List ℕ
  pub old : HeadNode
  pub new : HeadNode
  pub writes : WritesHead arena after chart number prefix old new
  pub posted_number : ℕ
  pub low : ℕ
  pub root_number : ℕ
  pub below : ℕ
  pub root_node : InteriorNode
  pub place : chart posted_number ≡ Some (spot (at_level 0) prefix low (on false))
  pub filled : arena root_number ≡ Some (interior root_node)
  pub unknown : chart root_number ≡ None
  pub posted_charted : Changes chart between posted_number (Some (spot (at_level 0) prefix low (on true)))
  pub root_charted : Changes between next root_number (Some (spot (at_level (suc below)) prefix 0 (on true)))
  pub root_low : root_node.low ≡ 0
  pub root_level : root_node.level ≡ suc below
  pub higher : old.level < suc below
  pub children : root_node.children ≡ (record { low = 0; number = old.root; level = old.level }) ∷
      ((record { low = low; number = posted_number; level = 0 }) ∷ [])
  pub once : NoChildTwice root_node.children
  pub root : new.root ≡ root_number
  pub level : new.level ≡ suc below
  pub deleted : new.deleted ≡ old.deleted
  pub no_twin : NoTwin twins number

-- An interior is split: a filled interior with some of its children is posted in an interior above it. Until the first
-- half is cut, the two are twins, and the pair stands both ways among the twins from then on.
pub record PostsHalf (twins more_twins : List Twin) (arena after : Arena) (chart next : Chart) : Type 0 where
  pub number : ℕ
  pub below : ℕ
  pub prefix : List ℕ
  pub least : ℕ
  pub posted : Bool
  pub node : InteriorNode
  pub place : chart number ≡ Some (spot (at_level (suc below)) prefix least (on posted))
  pub there : arena number ≡ Some (interior node)
  pub half_number : ℕ
  pub low : ℕ
  pub half : InteriorNode
  pub unknown : chart half_number ≡ None
  pub filled : arena half_number ≡ Some (interior half)
  pub charted : Changes chart next half_number (Some (spot (at_level (suc below)) prefix low (on true)))
  pub half_low : half.low ≡ low
  pub half_level : half.level ≡ suc below
  pub half_leftmost : FirstLow low half.children
  pub half_once : NoChildTwice half.children
  pub part : (each : PlainChild) → Among each half.children → Among each node.children
  pub parent_number : ℕ
  pub parent_below : ℕ
  pub parent_least : ℕ
  pub old : InteriorNode
  pub new : InteriorNode
  pub writes : WritesInterior arena after chart parent_number parent_below prefix parent_least old new
  pub above : below < parent_below
  pub children : (each : PlainChild) → Among each new.children
      ↔ ((each ≡ record { low = low; number = half_number; level = suc below }) ⊎ Among each old.children)
  pub kept_twins : (one other : ℕ) → AreTwins twins one other → AreTwins more_twins one other
  pub new_twins : (other : ℕ) → (other ≡ number) ⊎ AreTwins twins other number → AreTwins more_twins half_number other
      × AreTwins more_twins other half_number

-- A new root over the two halves of the old one: the root, an interior, is split, and a head names a filled interior
-- instead of it. The two children of that one are the old root and a filled interior with some of the old root's
-- children. Between the two changes of the chart, the new half may be named and the new root is unknown. The twins
-- change as they do when a half is posted, and the head is none of them.
pub record MakesRootOverHalf (twins more_twins : List Twin) (arena after : Arena)
    (chart between next : Chart) : Type 0 where
  pub number : ℕ
  pub prefix : List ℕ
  pub old : HeadNode
  pub new : HeadNode
  pub writes : WritesHead arena after chart number prefix old new
  pub split_number : ℕ
  pub below : ℕ
  pub split : InteriorNode
  pub was_root : old.root ≡ split_number
  pub place : chart split_number ≡ Some (spot (at_level (suc below)) prefix 0 (on true))
  pub there : arena split_number ≡ Some (interior split)
  pub half_number : ℕ
  pub low : ℕ
  pub half : InteriorNode
  pub half_unknown : chart half_number ≡ None
  pub half_filled : arena half_number ≡ Some (interior half)
  pub half_charted : Changes chart between half_number (Some (spot (at_level (suc below)) prefix low (on true)))
  pub half_low : half.low ≡ low
  pub half_level : half.level ≡ suc below
  pub half_leftmost : FirstLow low half.children
  pub half_once : NoChildTwice half.children
  pub part : (each : PlainChild) → Among each half.children → Among each split.children
  pub root_number : ℕ
  pub root_below : ℕ
  pub root_node : InteriorNode
  pub unknown : chart root_number ≡ None
  pub filled : arena root_number ≡ Some (interior root_node)
  pub root_charted : Changes between next root_number (Some (spot (at_level (suc root_below)) prefix 0 (on true)))
  pub root_low : root_node.low ≡ 0
  pub root_level : root_node.level ≡ suc root_below
  pub above : below < root_below
  pub children : root_node.children ≡ (record { low = 0; number = old.root; level = old.level }) ∷
      ((record { low = low; number = half_number; level = suc below }) ∷ [])
  pub once : NoChildTwice root_node.children
  pub root : new.root ≡ root_number
  pub level : new.level ≡ suc root_below
  pub deleted : new.deleted ≡ old.deleted
  pub kept_twins : (one other : ℕ) → AreTwins twins one other → AreTwins more_twins one other
  pub new_twins : (other : ℕ) → (other ≡ split_number) ⊎ AreTwins twins other split_number →
      AreTwins more_twins half_number other × AreTwins more_twins other half_number
  pub no_twin : NoTwin more_twins number

-- An interior keeps some of its children: the first half of a split is cut, or an interior is locked or unlocked. What
-- it leaves out another names.
pub record KeepsChildren (arena after : Arena) (chart : Chart) : Type 0 where
  pub number : ℕ
  pub below : ℕ
  pub prefix : List ℕ
  pub least : ℕ
  pub old : InteriorNode
  pub new : InteriorNode
  pub writes : WritesInterior arena after chart number below prefix least old new
  pub children : (each : PlainChild) → Among each new.children → Among each old.children
  pub left_out : (each : PlainChild) → Among each old.children → Among each new.children
      ⊎ ((other : ℕ) × (other ≢ number) × Owns arena chart other each.number)

-- an interior that is gone is marked deleted
pub record MarksGone (arena after : Arena) (chart : Chart) : Type 0 where
  pub number : ℕ
  pub below : ℕ
  pub prefix : List ℕ
  pub low : ℕ
  pub epoch : ℕ
  pub node : InteriorNode
  pub place : chart number ≡ Some (spot (at_level (suc below)) prefix low (gone epoch))
  pub written : Changes arena after number (Some (interior node))
  pub node_low : node.low ≡ low
  pub node_level : node.level ≡ suc below
  pub marked : node.deleted ≡ true

-- a border that is gone is locked or unlocked: it stays marked deleted
pub record MarksGoneBorder (arena after : Arena) (chart : Chart) : Type 0 where
  pub number : ℕ
  pub prefix : List ℕ
  pub low : ℕ
  pub epoch : ℕ
  pub node : BorderNode
  pub place : chart number ≡ Some (spot (at_level 0) prefix low (gone epoch))
  pub written : Changes arena after number (Some (border node))
  pub marked : node.deleted ≡ true

-- a head that is gone is locked or unlocked: it stays marked deleted
pub record MarksGoneHead (arena after : Arena) (chart : Chart) : Type 0 where
  pub number : ℕ
  pub prefix : List ℕ
  pub low : ℕ
  pub epoch : ℕ
  pub node : HeadNode
  pub place : chart number ≡ Some (spot top prefix low (gone epoch))
  pub written : Changes arena after number (Some (head node))
  pub marked : node.deleted ≡ true

-- numbers that the chart doesn't know are occupied, filled and given back; what it knows stays
abbrev pub ChangesSpares : Arena → Arena → Chart → Type 0
ChangesSpares arena after chart = (number : ℕ) (place : Spot) → chart number ≡ Some place → after number ≡ arena number

-- The chart forgets the number of a node that went in the epoch `went`. No interior that went then or before is still
-- to be marked deleted.
pub record Frees (arena : Arena) (chart next : Chart) (went : ℕ) : Type 0 where
  pub number : ℕ
  pub role : Role
  pub prefix : List ℕ
  pub low : ℕ
  pub place : chart number ≡ Some (spot role prefix low (gone went))
  pub charted : Changes chart next number None
  pub later : (other below : ℕ) (other_prefix : List ℕ) (other_low epoch : ℕ) (node : InteriorNode) →
      chart other ≡ Some (spot (at_level (suc below)) other_prefix other_low (gone epoch)) →
      arena other ≡ Some (interior node) → node.deleted ≡ false → went < epoch
