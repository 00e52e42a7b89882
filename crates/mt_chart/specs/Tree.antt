-- The tree as a reader of the index may take it: nodes in an arena, which of them are linked, and the rows that the
-- tree has. All of it is said of the arena alone.
use Rattle.std.specs.Prelude.{ℕ, ◌≡◌, ◌<◌, List, [], ◌∷◌, Option, Some, None, Bool}
use Rattle.mt_slice.specs.Place.{Place, last, deeper, under}
use Rattle.mt_types.specs.declared.row.Row.{Row}

-- The content of a slice: a row of a key that ends there after the given number of bytes; a row of a longer key, with
-- the place of what follows the slice; or a link to the head of the next layer.
pub data PlainContent : Type 0 where
  short : ℕ → Row → PlainContent
  long : Place → Row → PlainContent
  link : ℕ → PlainContent

-- an entry of a border: a slice and its content
pub record PlainEntry : Type 0 where
  pub slice : ℕ
  pub content : PlainContent

-- a border's right link: the border that it names, and the least slice that belongs there
pub record Right : Type 0 where
  pub low : ℕ
  pub number : ℕ

-- the head of a layer: the root of its tree, and the root's level
pub record HeadNode : Type 0 where
  pub deleted : Bool
  pub locked : Bool
  pub root : ℕ
  pub level : ℕ

-- a border: the entries of a layer from its low on, up to its right link
pub record BorderNode : Type 0 where
  pub deleted : Bool
  pub locked : Bool
  pub low : ℕ
  pub entries : List PlainEntry
  pub right : Option Right

-- a child of an interior: the least slice that it is posted for, its number and its level
pub record PlainChild : Type 0 where
  pub low : ℕ
  pub number : ℕ
  pub level : ℕ

-- an interior: the nodes below it in the tree of a layer, the first of them at its low
pub record InteriorNode : Type 0 where
  pub deleted : Bool
  pub locked : Bool
  pub low : ℕ
  pub level : ℕ
  pub children : List PlainChild

-- a node of the arena
pub data PlainNode : Type 0 where
  head : HeadNode → PlainNode
  border : BorderNode → PlainNode
  interior : InteriorNode → PlainNode

-- which node a number names
abbrev pub Arena : Type 0
Arena = ℕ → Option PlainNode

-- the element stands in the list
pub data Among {A : Type 0} (element : A) : List A → Type 0 where
  first : {rest : List A} → Among element (element ∷ rest)
  later : {other : A} {rest : List A} → Among element rest → Among element (other ∷ rest)

-- the slice is before the right link's low, if there is a right link
pub data Below (slice : ℕ) : Option Right → Type 0 where
  no_right : Below slice None
  before_right : {link : Right} → slice < link.low → Below slice (Some link)

-- from a node of a layer, first children lead to the target, a border
pub data Leads (arena : Arena) (target : ℕ) : ℕ → Type 0 where
  arrived : (node : BorderNode) → arena target ≡ Some (border node) → Leads arena target target
  by_first : {number : ℕ} (node : InteriorNode) (child : PlainChild) (others : List PlainChild) →
      arena number ≡ Some (interior node) → node.children ≡ child ∷ others → Leads arena target child.number →
      Leads arena target number

-- the linked borders of a head: the leftmost, and what the right link of a linked border names
pub data Linked (arena : Arena) (top : ℕ) : ℕ → Type 0 where
  leftmost : {number : ℕ} (node : HeadNode) → arena top ≡ Some (head node) → Leads arena number node.root →
      Linked arena top number
  by_right : {number : ℕ} (node : BorderNode) (link : Right) → Linked arena top number →
      arena number ≡ Some (border node) → node.right ≡ Some link → Linked arena top link.number

-- The attached layers, each a prefix with its head. A prefix is the slices above the layer, the nearest first.
pub data Attached (arena : Arena) : List ℕ → ℕ → Type 0 where
  layer_0 : Attached arena [] 0
  by_link : {prefix : List ℕ} {top : ℕ} {number : ℕ} (node : BorderNode) (slice next_top : ℕ) →
      Attached arena prefix top → Linked arena top number → arena number ≡ Some (border node) →
      Among (record { slice = slice; content = link next_top }) node.entries → Below slice node.right →
      Attached arena (slice ∷ prefix) next_top

-- the content of the slice holds the row, under this place of its layer
abbrev pub HoldsRow : ℕ → PlainContent → Place → Row → Type 0
HoldsRow slice (short bytes here) place row = (place ≡ last slice bytes) × (here ≡ row)
HoldsRow slice (long rest here) place row = (place ≡ deeper slice rest) × (here ≡ row)
HoldsRow slice (link number) place row = ⊥

-- the tree has the row at the key: in a live entry, below the right link's low, of a linked border of an attached layer
pub record Has (arena : Arena) (key : Place) (row : Row) : Type 0 where
  pub prefix : List ℕ
  pub top : ℕ
  pub number : ℕ
  pub node : BorderNode
  pub entry : PlainEntry
  pub place : Place
  pub attached : Attached arena prefix top
  pub linked : Linked arena top number
  pub is_node : arena number ≡ Some (border node)
  pub live : Among entry node.entries
  pub below : Below entry.slice node.right
  pub holds : HoldsRow entry.slice entry.content place row
  pub is_key : key ≡ under prefix place
