-- A call on its way to the border of its key.
use Rattle.std.specs.Prelude.{ℕ, ◌≡◌, ◌≤◌, ◌+◌, ◌-◌, ◌*◌, ◌⊎◌, List, length, false, Some, IsSomeAnd}
use Rattle.mt_slice.specs.Place.{place_of, under, slices_above, rest_at, slice_number}
use Rattle.mt_arena.specs.Arena.{ArenaView, IsArena}
use Rattle.mt_border.specs.Border.{BorderView}
use Rattle.mt_border.specs.declared.found.Found.{Found}
use Rattle.mt_arena.specs.Node.{node_at, border_at}
use Rattle.mt_arena.specs.declared.node.Node.{Node}
use Rattle.mt_chart.specs.Chart.{Holds, top}
use Rattle.mt_chart.specs.Walk.{Known, Moves}
use Rattle.mt_tree.specs.Seen.{arena_seen}
use Rattle.mt_tree.specs.declared.visit.Visit.{Visit}
use Rattle.mt_tree.specs.declared.visit.Visit.TheVariants.{Again as VisitAgain, To as VisitTo, Below, Here as VisitHere}
use Rattle.mt_tree.specs.Descent.{IsFoundAt, IsHere, IsLast, MayVisit, MayVisitNode, found_for, node_visit}
use Rattle.mt_steps.specs.declared.way.Way.{Way}
use Rattle.mt_steps.specs.declared.way.Went.{Went}
use Rattle.mt_steps.specs.declared.way.Went.TheVariants.{Again, To, Here}
use Rattle.mt_steps.specs.World.{World, IsWorld}

-- every way begins at the head of layer 0
abbrev pub start : Way
start = record { node = record { 0 = 0 }; layer = 0 }

-- the slices of the layers above the layer in which a call is, and what they have left of the key
abbrev pub prefix_of : List ℕ → Way → List ℕ
prefix_of key way = slices_above way.layer key

abbrev pub rest_of : List ℕ → Way → List ℕ
rest_of key way = rest_at way.layer key

-- the layer is one of the key's
pub record IsLayerOf (key : List ℕ) (way : Way) : Type 0 where
  pub within : 8 * way.layer ≤ length key - 1
  pub under : place_of key ≡ under (prefix_of key way) (place_of (rest_of key way))

-- a call that began in the epoch holds the node at which it is, for its key's slice in the layer
pub record IsOnWay (begun : ℕ) (key : List ℕ) (way : Way) (w : World) : Type 0 where
  pub layer : IsLayerOf key way
  pub held : Holds w.chart begun way.node.0 (prefix_of key way) (slice_number (rest_of key way))

-- it is at the border in which its key's entry is, if there is one: the border is not marked deleted, and no link leads
-- further
pub record IsAtPlace (a : ArenaView) (key : List ℕ) (way : Way) (w : World) : Type 0 where
  pub layer : IsLayerOf key way
  pub here : IsHere a w.chart way.node.0 (prefix_of key way) (rest_of key way)
  pub alive : here.border.version.deleted ≡ false
  pub last : IsLast (found_for (rest_of key way) here.border.live)

-- the number is the head of the layer of a prefix, and didn't go before the epoch
abbrev pub IsHeadOf : World → ℕ → ℕ → List ℕ → Type 0
IsHeadOf w begun number prefix = Known w.chart begun number top prefix 0

-- a way that leads a layer deeper leads to the head of that layer
abbrev pub LeadsToHead : ℕ → List ℕ → World → Way → Way → Type 0
LeadsToHead begun key w way next = (next.layer ≡ way.layer)
    ⊎ ((next.layer ≡ way.layer + 1) × IsHeadOf w begun next.node.0 (prefix_of key next))

-- what a visit leads to
abbrev pub GoesTo : ArenaView → ℕ → List ℕ → Way → World → Went → Type 0
GoesTo a begun key way w Again = Unit {0}
GoesTo a begun key way w (To next) = IsOnWay begun key next w × Moves (arena_seen a) way.node.0 next.node.0
    × LeadsToHead begun key w way next
GoesTo a begun key way w Here = IsAtPlace a key way w

-- what a visit comes to, on the way
abbrev pub went_by : Way → Visit → Went
went_by way VisitAgain = Again
went_by way (VisitTo next) = To (record { node = next; layer = way.layer })
went_by way (Below below) = To (record { node = below; layer = way.layer + 1 })
went_by way VisitHere = Here

-- what a visit of this node comes to, for a call that is at it
abbrev pub went_at : List ℕ → Way → Node → Went
went_at key way node = went_by way (node_visit (rest_of key way) node)

-- a visit of the one node at which a call is comes to this
abbrev pub VisitIs : ArenaView → List ℕ → Way → Went → Type 0
VisitIs a key way went = IsSomeAnd (node_at a.nodes way.node.0) (λ node. went ≡ went_at key way node)

-- what a call must know before it visits the node at which it is
pub record MayGo (a : ArenaView) (key : List ℕ) (way : Way) : Type 0 where
  pub within : 8 * way.layer ≤ length key - 1
  pub may : MayVisit a way.node.0 (slice_number (rest_of key way))

-- the same of the node itself, for a call that is lent that node alone
pub record MayGoAt (key : List ℕ) (way : Way) (node : Node) : Type 0 where
  pub within : 8 * way.layer ≤ length key - 1
  pub may : MayVisitNode node (slice_number (rest_of key way))

-- A NODE IS LENT: the arena is sound, and the number names this node in it. What is lent the node alone speaks of each
-- arena of which that is so.
pub record Names (a : ArenaView) (number : ℕ) (node : Node) : Type 0 where
  pub named : node_at a.nodes number ≡ Some node
  pub sound : IsArena a

-- what is known after a visit, in each world in which the call holds the node
pub record Visits (a : ArenaView) (key : List ℕ) (way : Way) (went : Went) : Type 0 where
  pub goes : (now : ℕ) (w : World) (begun : ℕ) → IsWorld a now w → IsOnWay begun key way w
      → GoesTo a begun key way w went

-- a search of the border at which a call is finds this for its key
pub record Finds (a : ArenaView) (key : List ℕ) (way : Way) (found : Found) : Type 0 where
  pub border : BorderView
  pub named : border_at a.nodes way.node.0 ≡ Some border
  pub is : found ≡ found_for (rest_of key way) border.live
  pub stands : IsFoundAt (rest_of key way) border.live found
