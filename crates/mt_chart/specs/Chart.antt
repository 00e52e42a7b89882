-- What the proofs know of the tree besides the arena: the chart, which has the place of each published node, and the
-- invariant between an arena and a chart.
use Rattle.std.specs.Prelude.{ℕ, suc, ◌≡◌, ◌≢◌, ◌<◌, ◌≤◌, ◌⊎◌, List, [], ◌∷◌, Option, Some, None, Bool, true, false}
use Rattle.mt_slice.specs.Place.{Place, under}
use Rattle.mt_types.specs.declared.row.Row.{Row}
use Rattle.mt_chart.specs.Tree.{PlainContent, short, long, link, PlainEntry, Right, HeadNode, BorderNode, PlainChild, InteriorNode, head, border, interior, Arena, Among, Below, HoldsRow}

-- The standing of a node. `on true`: it is linked, and a head or an interior may name it. `on false`: a border in its
-- chain that no head or interior names. `gone epoch`: since the epoch no new descent reaches it.
pub data Standing : Type 0 where
  on : Bool → Standing
  gone : ℕ → Standing

-- the head of a layer, or a node of the layer's tree at a level; borders have level 0
pub data Role : Type 0 where
  top : Role
  at_level : ℕ → Role

-- the place of a node: its role, its layer's prefix (the slices above, the nearest first), its low and its standing
pub data Spot : Type 0 where
  spot : Role → List ℕ → ℕ → Standing → Spot

-- the place of each number; a number that no published node has is without a place
abbrev pub Chart : Type 0
Chart = ℕ → Option Spot

-- the number is a head that is on, of the layer of the prefix
abbrev pub OnHead : Chart → ℕ → List ℕ → Type 0
OnHead chart number prefix = chart number ≡ Some (spot top prefix 0 (on true))

-- the number is a border that is on, in the layer of the prefix, and `here` is its node
pub record OnBorder (arena : Arena) (chart : Chart) (number : ℕ) (prefix : List ℕ) (here : BorderNode) : Type 0 where
  pub posted : Bool
  pub place : chart number ≡ Some (spot (at_level 0) prefix here.low (on posted))
  pub node : arena number ≡ Some (border here)

-- one class of the ten of a slice; a link and a row of a longer key are of the same
abbrev pub class : PlainContent → ℕ
class (short bytes _) = bytes
class (long _ _) = 9
class (link _) = 9

-- no two entries have one slice and class
abbrev pub Apart : List PlainEntry → Type 0
Apart entries = (entry other : PlainEntry) → Among entry entries → Among other entries → entry.slice ≡ other.slice →
    class entry.content ≡ class other.content → entry ≡ other

-- what holds of a border that is on: its entries are in its interval, its links name heads that are on, its right link
-- names a border that is on and is further right, and it is empty once it is marked deleted
pub record IsBorderNode (chart : Chart) (prefix : List ℕ) (node : BorderNode) : Type 0 where
  pub apart : Apart node.entries
  pub from_low : (entry : PlainEntry) → Among entry node.entries → node.low ≤ entry.slice
  pub to_right : (entry : PlainEntry) → Among entry node.entries → Below entry.slice node.right
  pub links : (slice number : ℕ) → Among (record { slice = slice; content = link number }) node.entries →
      OnHead chart number (slice ∷ prefix)
  pub right : (link : Right) → node.right ≡ Some link → (node.low < link.low) × (posted : Bool)
      × (chart link.number ≡ Some (spot (at_level 0) prefix link.low (on posted)))
  pub empty : node.deleted ≡ true → node.entries ≡ []

-- the place from which the layer of the prefix hangs: the first from number 0, any other from a link of a border of the
-- layer above
abbrev pub Hung : Arena → Chart → ℕ → List ℕ → Type 0
Hung arena chart number [] = number ≡ 0
Hung arena chart number (slice ∷ prefix) = (above : ℕ) × (node : BorderNode) × OnBorder arena chart above prefix node
    × Among (record { slice = slice; content = link number }) node.entries

-- What a head or an interior may name: one that is on names what is `on true`, one that is gone names what is on or
-- went no earlier.
abbrev pub MayName : Standing → Standing → Type 0
MayName (on posted) named = named ≡ on true
MayName (gone went) (on posted) = Unit {0}
MayName (gone went) (gone named_went) = went ≤ named_went

-- there is a first child, and it has this low
abbrev pub FirstLow : ℕ → List PlainChild → Type 0
FirstLow low [] = ⊥
FirstLow low (child ∷ others) = child.low ≡ low

-- what an interior of this level may have as a child; `namer` is the interior's standing
pub record IsChild (chart : Chart) (namer : Standing) (prefix : List ℕ) (level : ℕ) (child : PlainChild) : Type 0 where
  pub standing : Standing
  pub lower : child.level < level
  pub place : chart child.number ≡ Some (spot (at_level child.level) prefix child.low standing)
  pub may : MayName namer standing

-- what holds of an interior's children: the first has its low, and each may be its child
pub record AreChildren (chart : Chart) (namer : Standing) (prefix : List ℕ) (low level : ℕ)
    (children : List PlainChild) : Type 0 where
  pub leftmost : FirstLow low children
  pub each : (child : PlainChild) → Among child children → IsChild chart namer prefix level child

-- What holds of an interior, of the level `suc below`: its children are right, unless it is gone and marked deleted.
-- If it is gone, it stays locked until it is marked deleted.
pub record InteriorAt (arena : Arena) (chart : Chart) (number below : ℕ) (prefix : List ℕ) (least : ℕ)
    (standing : Standing) : Type 0 where
  pub node : InteriorNode
  pub is_node : arena number ≡ Some (interior node)
  pub low : node.low ≡ least
  pub level : node.level ≡ suc below
  pub ok : (((epoch : ℕ) × (standing ≡ gone epoch)) × (node.deleted ≡ true))
      ⊎ AreChildren chart standing prefix least (suc below) node.children
  pub locked_till_deleted : (epoch : ℕ) → standing ≡ gone epoch → (node.deleted ≡ true) ⊎ (node.locked ≡ true)

-- the owner, a head or an interior that is on, names the other as its root or as a child
pub data Owns (arena : Arena) (chart : Chart) (owner owned : ℕ) : Type 0 where
  by_head : (prefix : List ℕ) (node : HeadNode) → OnHead chart owner prefix → arena owner ≡ Some (head node) →
      node.root ≡ owned → Owns arena chart owner owned
  by_interior : (below : ℕ) (prefix : List ℕ) (low : ℕ) (posted : Bool) (node : InteriorNode) (child : PlainChild) →
      chart owner ≡ Some (spot (at_level (suc below)) prefix low (on posted)) →
      arena owner ≡ Some (interior node) → Among child node.children → child.number ≡ owned →
      Owns arena chart owner owned

-- what holds of a head that is on: its root is on, in its layer, from the least slice on
pub record HeadAt (arena : Arena) (chart : Chart) (number : ℕ) (prefix : List ℕ) (least : ℕ)
    (may_be_named : Bool) : Type 0 where
  pub low : least ≡ 0
  pub posted : may_be_named ≡ true
  pub node : HeadNode
  pub is_node : arena number ≡ Some (head node)
  pub root : chart node.root ≡ Some (spot (at_level node.level) prefix 0 (on true))

-- THE INVARIANT between an arena and its chart.
pub record IsTree (arena : Arena) (chart : Chart) : Type 0 where
  pub layer_0 : OnHead chart 0 []
  -- the node of a number of the chart
  pub heads : (number : ℕ) (prefix : List ℕ) (low : ℕ) (posted : Bool) →
      chart number ≡ Some (spot top prefix low (on posted)) → HeadAt arena chart number prefix low posted
  pub borders : (number : ℕ) (prefix : List ℕ) (low : ℕ) (posted : Bool) →
      chart number ≡ Some (spot (at_level 0) prefix low (on posted)) → (node : BorderNode)
      × (arena number ≡ Some (border node)) × (node.low ≡ low)
  pub each_border : (number : ℕ) (prefix : List ℕ) (node : BorderNode) → OnBorder arena chart number prefix node →
      IsBorderNode chart prefix node
  pub interiors : (number below : ℕ) (prefix : List ℕ) (low : ℕ) (standing : Standing) →
      chart number ≡ Some (spot (at_level (suc below)) prefix low standing) →
      InteriorAt arena chart number below prefix low standing
  pub gone_heads : (number : ℕ) (prefix : List ℕ) (low epoch : ℕ) →
      chart number ≡ Some (spot top prefix low (gone epoch)) → (node : HeadNode) × (arena number ≡ Some (head node))
      × (node.deleted ≡ true)
  pub gone_borders : (number : ℕ) (prefix : List ℕ) (low epoch : ℕ) →
      chart number ≡ Some (spot (at_level 0) prefix low (gone epoch)) → (node : BorderNode)
      × (arena number ≡ Some (border node)) × (node.deleted ≡ true)
  -- what names a border or a head
  pub from_left : (number : ℕ) (prefix : List ℕ) (node : BorderNode) → OnBorder arena chart number prefix node →
      (node.low ≡ 0) ⊎ ((left : ℕ) × (other : BorderNode) × OnBorder arena chart left prefix other
      × (other.right ≡ Some (record { low = node.low; number = number })))
  pub in_layer : (number : ℕ) (prefix : List ℕ) (node : BorderNode) → OnBorder arena chart number prefix node →
      (above : ℕ) × OnHead chart above prefix
  pub hung : (number : ℕ) (prefix : List ℕ) → OnHead chart number prefix → Hung arena chart number prefix
  -- nothing stands twice
  pub disjoint : (number other_number : ℕ) (prefix : List ℕ) (node other : BorderNode) →
      OnBorder arena chart number prefix node → OnBorder arena chart other_number prefix other → node.low ≤ other.low →
      Below other.low node.right → number ≡ other_number

-- no number stands twice among the children
abbrev pub NoChildTwice : List PlainChild → Type 0
NoChildTwice [] = Unit {0}
NoChildTwice (child ∷ others) = ((other : PlainChild) → Among other others → other.number ≢ child.number)
    × NoChildTwice others

-- Each node of a tree is named by one head or interior that is on, but for the two halves of an interior that is being
-- split. Those pairs are the twins; the open calls tell which they are.
pub record Owned (arena : Arena) (chart : Chart) (twins : ℕ → ℕ → Type 0) : Type 0 where
  pub one_owner : (owner other child : ℕ) → Owns arena chart owner child → Owns arena chart other child →
      (owner ≡ other) ⊎ twins owner other
  pub once : (number below : ℕ) (prefix : List ℕ) (low : ℕ) (posted : Bool) (node : InteriorNode) →
      chart number ≡ Some (spot (at_level (suc below)) prefix low (on posted)) → arena number ≡ Some (interior node) →
      NoChildTwice node.children

-- a head or an interior that is on names the number
abbrev pub HasOwner : Arena → Chart → ℕ → Type 0
HasOwner arena chart number = (owner : ℕ) × Owns arena chart owner number

-- What is on in the tree of a layer is named, but for a border that no head or interior may name.
abbrev pub Named : Arena → Chart → Type 0
Named arena chart = (number level : ℕ) (prefix : List ℕ) (low : ℕ) (posted : Bool) →
    chart number ≡ Some (spot (at_level level) prefix low (on posted)) → ((level ≡ 0) × (posted ≡ false))
    ⊎ HasOwner arena chart number

-- the number names a border with nothing to its right
abbrev pub IsLastBorder : Arena → ℕ → Type 0
IsLastBorder arena number = (node : BorderNode) × (arena number ≡ Some (border node)) × (node.right ≡ None)

-- a head that is on and is marked deleted has a border for its root, with nothing to its right
abbrev pub MarkedHeads : Arena → Chart → Type 0
MarkedHeads arena chart = (number : ℕ) (prefix : List ℕ) (node : HeadNode) → OnHead chart number prefix →
    arena number ≡ Some (head node) → node.deleted ≡ true → IsLastBorder arena node.root

-- no node went after the present epoch
abbrev pub Dated : Chart → ℕ → Type 0
Dated chart now = (number : ℕ) (role : Role) (prefix : List ℕ) (low epoch : ℕ) →
    chart number ≡ Some (spot role prefix low (gone epoch)) → epoch ≤ now

-- the content as the chart shows it: the row of a live entry in a border that is on
pub record Stored (arena : Arena) (chart : Chart) (key : Place) (row : Row) : Type 0 where
  pub prefix : List ℕ
  pub number : ℕ
  pub node : BorderNode
  pub entry : PlainEntry
  pub place : Place
  pub on_border : OnBorder arena chart number prefix node
  pub live : Among entry node.entries
  pub holds : HoldsRow entry.slice entry.content place row
  pub is_key : key ≡ under prefix place

-- A call that began in the epoch holds the node: the node stands in the layer of the prefix, its low is at most the
-- slice, and it did not go before the call began.
pub record Holds (chart : Chart) (begun number : ℕ) (prefix : List ℕ) (slice : ℕ) : Type 0 where
  pub role : Role
  pub low : ℕ
  pub standing : Standing
  pub place : chart number ≡ Some (spot role prefix low standing)
  pub at_most : low ≤ slice
  pub since : (epoch : ℕ) → standing ≡ gone epoch → begun ≤ epoch

-- how the standing of a node may change in or after the epoch
pub data Later (begun : ℕ) : Standing → Standing → Type 0 where
  still_on : {posted posted_later : Bool} → Later begun (on posted) (on posted_later)
  still_gone : {epoch : ℕ} → Later begun (gone epoch) (gone epoch)
  went : {posted : Bool} {epoch : ℕ} → begun ≤ epoch → Later begun (on posted) (gone epoch)

-- What a call that began in the epoch may rely on while other calls continue: each node keeps its role, its prefix and
-- its low, except nodes that went before that epoch, whose numbers may be freed and used again.
abbrev pub Evolves : ℕ → Chart → Chart → Type 0
Evolves begun chart new = (number : ℕ) (role : Role) (prefix : List ℕ) (low : ℕ) (standing : Standing) →
    chart number ≡ Some (spot role prefix low standing) →
    ((later : Standing) × (new number ≡ Some (spot role prefix low later)) × Later begun standing later)
    ⊎ ((epoch : ℕ) × (standing ≡ gone epoch) × (epoch < begun))

-- one number of an arena, or of a chart, has a new value, and the others keep theirs
pub record Changes {A : Type 0} (before after : ℕ → A) (at : ℕ) (value : A) : Type 0 where
  pub now : after at ≡ value
  pub rest : (other : ℕ) → other ≢ at → after other ≡ before other
