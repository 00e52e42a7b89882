-- The laws of an index: the places of its rows, and what a call that goes through it may rely on.
use Rattle.std.specs.Prelude.{ℕ, suc, ◌≡◌, ◌≢◌, ◌<◌, ◌≤◌, ◌⊎◌, ◌↔◌, List, [], ◌∷◌, Some, None, Bool, true, false}
use Rattle.mt_slice.specs.Place.{Place, last, deeper, under, first_slice}
use Rattle.mt_types.specs.declared.row.Row.{Row}
use Rattle.mt_chart.specs.Tree.{link, PlainEntry, Right, HeadNode, BorderNode, PlainChild, InteriorNode, PlainNode, head, border, interior, Arena, Among, Below, HoldsRow, Has}
use Rattle.mt_chart.specs.Chart.{Standing, on, at_level, spot, Chart, OnHead, OnBorder, IsTree, Stored, Holds, Evolves}
use Rattle.mt_chart.specs.Steps.{Twin, IsIndex, ShowsRow}
use Rattle.mt_chart.specs.NewIndex.{new_arena, new_chart, first_row_arena}

-- a new index meets the invariant
abbrev pub NewIndexIsIndex : Type 0
NewIndexIsIndex = (root : ℕ) → 0 < root → IsIndex 0 [] (new_arena root) (new_chart root)

-- a new index has no row
abbrev pub NewIndexIsEmpty : Type 0
NewIndexIsEmpty = (root : ℕ) → 0 < root → (key : Place) (row : Row) → Has (new_arena root) key row → ⊥

-- a first row can be shown in a new index, at the empty key
abbrev pub FirstRowsCanBeShown : Type 0
FirstRowsCanBeShown = (root : ℕ) → 0 < root → (row : Row) →
    ShowsRow (new_arena root) (first_row_arena root row) (new_chart root) (last 0 0) row

-- the rows that the tree has are those in borders that are on
abbrev pub RowsAreInBorders : Type 0
RowsAreInBorders = (arena : Arena) (chart : Chart) → IsTree arena chart → (key : Place) (row : Row) →
    Has arena key row ↔ Stored arena chart key row

-- a key has one row at most
abbrev pub KeysHaveOneRow : Type 0
KeysHaveOneRow = (arena : Arena) (chart : Chart) → IsTree arena chart → (key : Place) (row other : Row) →
    Has arena key row → Has arena key other → row ≡ other

-- the border is the one to which the place of its layer belongs: the slice is in its interval
pub record IsWhere (arena : Arena) (chart : Chart) (number : ℕ) (prefix : List ℕ) (node : BorderNode)
    (place : Place) : Type 0 where
  pub stands : OnBorder arena chart number prefix node
  pub from_low : node.low ≤ first_slice place
  pub to_right : Below (first_slice place) node.right

-- an entry of the border holds the row at the place
abbrev pub HasEntry : BorderNode → Place → Row → Type 0
HasEntry node place row = (entry : PlainEntry) × Among entry node.entries × HoldsRow entry.slice entry.content place row

-- the border has a link at the place's slice, and the place continues past that slice
abbrev pub GoesOnAtALink : BorderNode → Place → Type 0
GoesOnAtALink node place = (rest : Place) × (next : ℕ) × (place ≡ deeper (first_slice place) rest)
    × Among (record { slice = first_slice place; content = link next }) node.entries

-- AT ITS PLACE, if no link leads further, a key has a row exactly if the border has an entry with that row
abbrev pub KeysAreAtTheirPlaces : Type 0
KeysAreAtTheirPlaces = (arena : Arena) (chart : Chart) (number : ℕ) (prefix : List ℕ) (node : BorderNode)
    (place : Place) → IsTree arena chart → IsWhere arena chart number prefix node place →
    (GoesOnAtALink node place → ⊥) → (row : Row) → Has arena (under prefix place) row ↔ HasEntry node place row

-- a key that has a row stands in an entry of the border in whose interval it is, or under a link of it
abbrev pub KeysAreInTheirIntervals : Type 0
KeysAreInTheirIntervals = (arena : Arena) (chart : Chart) (number : ℕ) (prefix : List ℕ) (node : BorderNode)
    (place : Place) → IsTree arena chart → IsWhere arena chart number prefix node place →
    (row : Row) → Has arena (under prefix place) row → HasEntry node place row ⊎ GoesOnAtALink node place

-- what a call holds stays held while others continue
abbrev pub HoldingLasts : Type 0
HoldingLasts = (begun number : ℕ) (prefix : List ℕ) (slice : ℕ) (chart next : Chart) → Evolves begun chart next →
    Holds chart begun number prefix slice → Holds next begun number prefix slice

-- a chart that evolves, and evolves again, has evolved
abbrev pub EvolvingGoesOn : Type 0
EvolvingGoesOn = (begun : ℕ) (first second third : Chart) → Evolves begun first second → Evolves begun second third →
    Evolves begun first third

-- every call holds the head of layer 0
abbrev pub LayerZeroIsHeld : Type 0
LayerZeroIsHeld = (arena : Arena) (chart : Chart) → IsTree arena chart → (begun slice : ℕ) →
    Holds chart begun 0 [] slice

-- from a held head, not marked deleted, the root is held, for any slice
abbrev pub RootsAreHeld : Type 0
RootsAreHeld = (arena : Arena) (chart : Chart) → IsTree arena chart →
    (begun number held slice : ℕ) (prefix : List ℕ) (node : HeadNode) → Holds chart begun number prefix held →
    arena number ≡ Some (head node) → node.deleted ≡ false → Holds chart begun node.root prefix slice

-- from a held interior, not marked deleted, each child is held for the slices from its low on
abbrev pub ChildrenAreHeld : Type 0
ChildrenAreHeld = (arena : Arena) (chart : Chart) → IsTree arena chart →
    (begun number slice : ℕ) (prefix : List ℕ) (node : InteriorNode) (child : PlainChild) →
    Holds chart begun number prefix slice →
    arena number ≡ Some (interior node) → node.deleted ≡ false → Among child node.children → child.low ≤ slice →
    Holds chart begun child.number prefix slice

-- a held interior, not marked deleted, has a first child, and its low is at most the slice
abbrev pub SomeChildLeadsOn : Type 0
SomeChildLeadsOn = (arena : Arena) (chart : Chart) → IsTree arena chart →
    (begun number slice : ℕ) (prefix : List ℕ) (node : InteriorNode) → Holds chart begun number prefix slice →
    arena number ≡ Some (interior node) → node.deleted ≡ false → (child : PlainChild) × (others : List PlainChild)
    × (node.children ≡ child ∷ others) × (child.low ≤ slice)

-- a held border, not marked deleted, is on, and its low is at most the slice
abbrev pub HeldBordersAreOn : Type 0
HeldBordersAreOn = (arena : Arena) (chart : Chart) → IsTree arena chart →
    (begun number slice : ℕ) (prefix : List ℕ) (node : BorderNode) → Holds chart begun number prefix slice →
    arena number ≡ Some (border node) → node.deleted ≡ false → OnBorder arena chart number prefix node
    × (node.low ≤ slice)

-- from a border that is on, what its right link names is held for the slices from the link's low on
abbrev pub RightNeighboursAreHeld : Type 0
RightNeighboursAreHeld = (arena : Arena) (chart : Chart) → IsTree arena chart →
    (begun number slice : ℕ) (prefix : List ℕ) (node : BorderNode) (right : Right) →
    OnBorder arena chart number prefix node →
    node.right ≡ Some right → right.low ≤ slice → Holds chart begun right.number prefix slice

-- from a border that is on, the head that a link names is held, in the layer below, for any slice
abbrev pub LinkedHeadsAreHeld : Type 0
LinkedHeadsAreHeld = (arena : Arena) (chart : Chart) → IsTree arena chart →
    (begun number at slice next : ℕ) (prefix : List ℕ) (node : BorderNode) → OnBorder arena chart number prefix node →
    Among (record { slice = at; content = link next }) node.entries → Holds chart begun next (at ∷ prefix) slice

-- at a held number there is a node
abbrev pub HeldNodesAreThere : Type 0
HeldNodesAreThere = (arena : Arena) (chart : Chart) → IsTree arena chart → (begun number slice : ℕ) (prefix : List ℕ) →
    Holds chart begun number prefix slice → (node : PlainNode) × (arena number ≡ Some node)

-- an interior that the chart knows, not marked deleted and not locked, is on
abbrev pub FreeInteriorsAreOn : Type 0
FreeInteriorsAreOn = (arena : Arena) (chart : Chart) → IsTree arena chart →
    (number below : ℕ) (prefix : List ℕ) (low : ℕ) (standing : Standing) (node : InteriorNode) →
    chart number ≡ Some (spot (at_level (suc below)) prefix low standing) → arena number ≡ Some (interior node) →
    node.deleted ≡ false → node.locked ≡ false → (posted : Bool) × (standing ≡ on posted)

-- the border in whose interval the slice before another border's low is has its right link to that border
abbrev pub LeftNeighboursAreFound : Type 0
LeftNeighboursAreFound = (arena : Arena) (chart : Chart) → IsTree arena chart →
    (left number slice : ℕ) (prefix : List ℕ) (node other : BorderNode) → OnBorder arena chart left prefix node →
    OnBorder arena chart number prefix other → node.low ≤ slice → suc slice ≡ other.low → Below slice node.right →
    node.right ≡ Some (record { low = other.low; number = number })

-- no number from this one on names a node
abbrev pub EndsBy : Arena → ℕ → Type 0
EndsBy arena bound = (number : ℕ) → bound ≤ number → arena number ≡ None

-- The root of a head that is on has the greatest level of its layer: all the rest that may be named there is lower. The
-- reason is that the levels of owners rise, and there are at most `bound` nodes.
abbrev pub RootsAreHighest : Type 0
RootsAreHighest = (now bound : ℕ) (twins : List Twin) (arena : Arena) (chart : Chart) → IsIndex now twins arena chart →
    EndsBy arena bound → (number : ℕ) (prefix : List ℕ) (node : HeadNode) → OnHead chart number prefix →
    arena number ≡ Some (head node) → (other level low : ℕ) →
    chart other ≡ Some (spot (at_level level) prefix low (on true)) → (node.root ≡ other) ⊎ (level < node.level)

-- So an interior that is on is the root of its layer if the root has no greater level: for example if an interior is
-- being split, its new half is to be posted above it, and the head's root is not above it.
abbrev pub RootOfASplitIsIt : Type 0
RootOfASplitIsIt = (now bound : ℕ) (twins : List Twin) (arena : Arena) (chart : Chart) → IsIndex now twins arena chart →
    EndsBy arena bound → (number : ℕ) (prefix : List ℕ) (node : HeadNode) → OnHead chart number prefix →
    arena number ≡ Some (head node) → (split below low : ℕ) (posted : Bool) →
    chart split ≡ Some (spot (at_level (suc below)) prefix low (on posted)) → node.level ≤ suc below →
    node.root ≡ split

-- A layer whose head is marked deleted has one border, its root. So if a border of a layer is on that is not the root,
-- has a greater low, or may not be named yet, the head is not marked deleted: for example if a border is to be posted.
abbrev pub MarkedLayersHaveOneBorder : Type 0
MarkedLayersHaveOneBorder = (now : ℕ) (twins : List Twin) (arena : Arena) (chart : Chart) →
    IsIndex now twins arena chart → (number : ℕ) (prefix : List ℕ) (node : HeadNode) → OnHead chart number prefix →
    arena number ≡ Some (head node) →
    (other low : ℕ) (posted : Bool) → chart other ≡ Some (spot (at_level 0) prefix low (on posted)) →
    (node.root ≢ other) ⊎ ((0 < low) ⊎ (posted ≡ false)) → node.deleted ≡ false
