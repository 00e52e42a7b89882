-- What a descent sees at a node on its way to the rest of a key, and what it then knows of the tree.
use Rattle.std.specs.Prelude.{ℕ, ◌≡◌, ◌≢◌, ◌<◌, ◌≤◌, ◌-◌, ◌⊎◌, ◌↔◌, if◌then◌else◌, Bool, false, List, ◌∷◌, length, drop, slice_get, Option, Some, None, IsSome}
use Rattle.mt_types.specs.declared.numbers.NodeNo.{NodeNo}
use Rattle.mt_types.specs.declared.row.Row.{Row}
use Rattle.mt_slice.specs.Place.{Place, first_slice, under, place_of, slice_number}
use Rattle.mt_slice.specs.Classes.{class_of}
use Rattle.mt_border.specs.Border.{BorderView, right_for, row_at}
use Rattle.mt_border.specs.Entry.{entry_row}
use Rattle.mt_border.specs.Find.{found_in}
use Rattle.mt_border.specs.Order.{IsBorder}
use Rattle.mt_border.specs.declared.entry.Content.TheVariants.{Long, Link}
use Rattle.mt_border.specs.declared.entry.Entry.{Entry}
use Rattle.mt_border.specs.declared.found.Found.{Found}
use Rattle.mt_border.specs.declared.found.Found.TheVariants.{Absent, Row as RowFound, OtherSuffix, Link as LinkFound}
use Rattle.mt_interior.specs.Head.{HeadView}
use Rattle.mt_interior.specs.Interior.{InteriorView, children_up_to}
use Rattle.mt_interior.specs.declared.child.Child.{Child}
use Rattle.mt_arena.specs.Node.{node_at, interior_of, interior_at, border_at}
use Rattle.mt_arena.specs.Arena.{ArenaView}
use Rattle.mt_arena.specs.declared.node.Node.{Node}
use Rattle.mt_arena.specs.declared.node.Node.TheVariants.{Head, Interior, Border}
use Rattle.mt_chart.specs.Tree.{Has, Below as BelowLow}
use Rattle.mt_chart.specs.Chart.{Chart, Holds, top as head_role}
use Rattle.mt_chart.specs.Steps.{Twin}
use Rattle.mt_chart.specs.Walk.{Known, Moves}
use Rattle.mt_chart.specs.ScanRun.{EntriesInOrder}
use Rattle.mt_chart.specs.TreeLaws.{IsWhere, HasEntry, GoesOnAtALink}
use Rattle.mt_tree.specs.Seen.{arena_seen, border_seen, entry_place}
use Rattle.mt_tree.specs.Keeping.{IsIndexAt}
use Rattle.mt_tree.specs.declared.visit.Visit.{Visit}
use Rattle.mt_tree.specs.declared.visit.Visit.TheVariants.{Again, To, Below, Here}

-- from a head to the root
abbrev pub visit_head : HeadView → Visit
visit_head h = if h.version.deleted then Again else To h.root

-- to a child; the interior nodes that a call may visit have one
abbrev pub to_child : Option Child → Visit
to_child (Some child) = To child.node
to_child None = Again

-- from an interior node to the last child whose low is at most the slice
abbrev pub visit_interior : ℕ → InteriorView → Visit
visit_interior slice i = if i.version.deleted then Again else to_child
    (slice_get i.children (children_up_to slice i.children - 1))

-- what a search finds among entries for the rest of a key
abbrev pub found_for : List ℕ → List Entry → Found
found_for rest live = found_in (slice_number rest) (class_of (length rest)) (drop 8 rest) live

-- a link leads to the layer below
abbrev pub visit_found : Found → Visit
visit_found (Absent place) = Here
visit_found (RowFound place) = Here
visit_found (OtherSuffix place) = Here
visit_found (LinkFound place top) = Below top

-- to the right neighbour, if that is where the slice stands
abbrev pub to_right : Option NodeNo → Found → Visit
to_right (Some right) found = To right
to_right None found = visit_found found

abbrev pub visit_border : List ℕ → BorderView → Visit
visit_border rest b = if b.version.deleted then Again else to_right (right_for b.right (slice_number rest))
    (found_for rest b.live)

abbrev pub node_visit : List ℕ → Node → Visit
node_visit rest (Head h) = visit_head h
node_visit rest (Interior i) = visit_interior (slice_number rest) i
node_visit rest (Border b) = visit_border rest b

-- the node is marked deleted
abbrev pub is_marked : Node → Bool
is_marked (Head h) = h.version.deleted
is_marked (Interior i) = i.version.deleted
is_marked (Border b) = b.version.deleted

-- the node, if it is an interior that is not marked deleted, has a child for the slice
pub record MayVisitNode (node : Node) (slice : ℕ) : Type 0 where
  pub has_child : (i : InteriorView) → interior_of node ≡ Some i → i.version.deleted ≡ false → (0 < length i.children)
      × (i.low ≤ slice)

-- the number names a node, and one that is an interior, not marked deleted, has a child for the slice
pub record MayVisit (a : ArenaView) (number slice : ℕ) : Type 0 where
  pub named : IsSome (node_at a.nodes number)
  pub has_child : (i : InteriorView) → interior_at a.nodes number ≡ Some i → i.version.deleted ≡ false →
      (0 < length i.children) × (i.low ≤ slice)

-- the border is on, in the layer of the prefix, and the rest of the key is in its interval
pub record IsHere (a : ArenaView) (chart : Chart) (number : ℕ) (prefix rest : List ℕ) : Type 0 where
  pub border : BorderView
  pub named : border_at a.nodes number ≡ Some border
  pub stands : IsWhere (arena_seen a) chart number prefix (border_seen border) (place_of rest)

-- what a call knows where a visit leads it: it holds the next node; or it knows the next one as the head of the layer
-- below; or it has come to the key's border
abbrev pub Knows : ArenaView → Chart → ℕ → ℕ → List ℕ → List ℕ → Visit → Type 0
Knows a chart begun number prefix rest Again = Unit {0}
Knows a chart begun number prefix rest (To next) = Holds chart begun next.0 prefix (slice_number rest)
Knows a chart begun number prefix rest (Below top) = (8 < length rest)
    × Known chart begun top.0 head_role (slice_number rest ∷ prefix) 0
Knows a chart begun number prefix rest Here = IsHere a chart number prefix rest

-- A CALL THAT HOLDS THE NODE, for the slice that it seeks in the layer of a prefix, knows this after the visit
pub record LeadsOn (a : ArenaView) (number : ℕ) (rest : List ℕ) (visit : Visit) : Type 0 where
  pub leads : (now : ℕ) (twins : List Twin) (chart : Chart) (begun : ℕ) (prefix : List ℕ) →
      IsIndexAt a now twins chart → Holds chart begun number prefix (slice_number rest) →
      Knows a chart begun number prefix rest visit

-- no link leads on
abbrev pub IsLast : Found → Type 0
IsLast (Absent place) = Unit {0}
IsLast (RowFound place) = Unit {0}
IsLast (OtherSuffix place) = Unit {0}
IsLast (LinkFound place top) = ⊥

-- WHAT A VISIT WAS: one that continues is a move of a descent; if it has come to the key's border, the border is not
-- marked deleted, and no link leads on
abbrev pub TellsVisit : ArenaView → ℕ → List ℕ → Visit → Type 0
TellsVisit a number rest Again = Unit {0}
TellsVisit a number rest (To next) = Moves (arena_seen a) number next.0
TellsVisit a number rest (Below top) = Moves (arena_seen a) number top.0
TellsVisit a number rest Here = (b : BorderView) → border_at a.nodes number ≡ Some b → (b.version.deleted ≡ false)
    × IsLast (found_for rest b.live)

-- the entry at a place has a row, whose key has the rest
pub record HasRowOf (rest : List ℕ) (live : List Entry) (place : ℕ) : Type 0 where
  pub entry : Entry
  pub stands : slice_get live place ≡ Some entry
  pub row : IsSome (entry_row entry)
  pub of_rest : entry_place entry ≡ place_of rest

-- the entry at a place has the row of a longer key, of the same slice as the rest but another suffix
pub record HasOtherSuffix (rest : List ℕ) (live : List Entry) (place : ℕ) : Type 0 where
  pub suffix : List ℕ
  pub row : Row
  pub stands : slice_get live place ≡ Some (record { slice = slice_number rest; content = Long suffix row })
  pub goes_on : 8 < length rest
  pub other : suffix ≢ drop 8 rest

-- if a row, a row of another suffix or a link was found, such an entry is at the place
abbrev pub IsFoundAt : List ℕ → List Entry → Found → Type 0
IsFoundAt rest live (Absent place) = place ≤ length live
IsFoundAt rest live (RowFound place) = HasRowOf rest live place
IsFoundAt rest live (OtherSuffix place) = HasOtherSuffix rest live place
IsFoundAt rest live (LinkFound place top) = slice_get live place
    ≡ Some (record { slice = slice_number rest; content = Link top })

-- the row that was found, if one was
abbrev pub row_found : List Entry → Found → Option Row
row_found live (Absent place) = None
row_found live (RowFound place) = row_at place live
row_found live (OtherSuffix place) = None
row_found live (LinkFound place top) = None

-- WHERE A CALL HAS COME TO THE KEY'S BORDER, and no link leads on, the tree has a row at the key exactly where that row
-- was found
pub record TellsRow (a : ArenaView) (number : ℕ) (rest : List ℕ) (found : Found) : Type 0 where
  pub tells : (now : ℕ) (twins : List Twin) (chart : Chart) (prefix : List ℕ) → IsIndexAt a now twins chart →
      (here : IsHere a chart number prefix rest) → IsLast found →
      (row : Row) → Has (arena_seen a) (under prefix (place_of rest)) row
      ↔ (row_found here.border.live found ≡ Some row)

-- what a call holds it may visit, for the slice that it holds it for
abbrev pub HeldNodesMayBeVisited : Type 0
HeldNodesMayBeVisited = (a : ArenaView) (now : ℕ) (twins : List Twin) (chart : Chart) (begun number slice : ℕ)
    (prefix : List ℕ) → IsIndexAt a now twins chart → Holds chart begun number prefix slice → MayVisit a number slice

-- the tree has no other row in the border's interval than those of its entries and of the layers under its links
abbrev pub HasInterval : ArenaView → ℕ → List ℕ → BorderView → Type 0
HasInterval a number prefix b = (place : Place) (row : Row) → b.low ≤ first_slice place →
    BelowLow (first_slice place) (border_seen b).right → Has (arena_seen a) (under prefix place) row →
    HasEntry (border_seen b) place row ⊎ GoesOnAtALink (border_seen b) place

-- WHAT A RANGE NEEDS OF A BORDER that it holds, not marked deleted: the border begins at or before the slice that the
-- range seeks, its entries are in order, and they are all that there is in its interval
abbrev pub HeldBordersHaveIntervals : Type 0
HeldBordersHaveIntervals = (a : ArenaView) (now : ℕ) (twins : List Twin) (chart : Chart) (begun number slice : ℕ)
    (prefix : List ℕ) (b : BorderView) → IsIndexAt a now twins chart → Holds chart begun number prefix slice →
    border_at a.nodes number ≡ Some b → b.version.deleted ≡ false → IsBorder b → (b.low ≤ slice)
    × EntriesInOrder (border_seen b).entries × HasInterval a number prefix b
