-- The run of moves that an open get is in: each node that it came through stands before the next in one order of
-- places.
use Rattle.std.specs.Prelude.{ℕ, suc, ◌≡◌, ◌<◌, ◌≤◌, ◌+◌, ◌*◌, ◌^◌, ◌-◌, List, [], ◌∷◌, length, Some, Bool, false}
use Rattle.mt_types.specs.declared.limits.TheConstants.{MAX_LAYER, MAX_LEVEL}
use Rattle.mt_chart.specs.Tree.{Among, Arena, HeadNode, BorderNode, InteriorNode, PlainChild, Right, head, border, interior, link}
use Rattle.mt_chart.specs.Chart.{Standing, on, gone, Role, top, at_level, Spot, spot, Chart, IsTree, Evolves}

-- nothing stands twice in the list
abbrev pub Distinct : {A : Type 0} → List A → Type 0
Distinct [] = Unit {0}
Distinct (element ∷ others) = (Among element others → ⊥) × Distinct others

-- how many kinds of node stand above it in a layer: a head has none, an interior of the greatest level one, and so on
abbrev pub below_top : Role → ℕ
below_top top = 0
below_top (at_level level) = (MAX_LEVEL + 1) - level

-- the place of a node in the order of a descent: first by its depth, then by its kind and level, then by its low
abbrev pub height : Role → List ℕ → ℕ → ℕ
height role prefix low = (length prefix * (MAX_LEVEL + 2) + below_top role) * (2 ^ 64) + low

-- more than any height in a tree of `MAX_LAYER + 1` layers
abbrev pub all_heights : ℕ
all_heights = (MAX_LAYER + 1) * (MAX_LEVEL + 2) * 2 ^ 64

-- how far a call at a node of this height is from the end of its moves, at most
abbrev pub moves_left : ℕ → ℕ
moves_left height_there = all_heights - height_there

-- a call that began in the epoch knows the node's place, and the node did not go before the call began
pub record Known (chart : Chart) (begun number : ℕ) (role : Role) (prefix : List ℕ) (low : ℕ) : Type 0 where
  pub standing : Standing
  pub place : chart number ≡ Some (spot role prefix low standing)
  pub since : (epoch : ℕ) → standing ≡ gone epoch → begun ≤ epoch

-- the same, with the height alone
pub record KnownAt (chart : Chart) (begun number reached : ℕ) : Type 0 where
  pub role : Role
  pub prefix : List ℕ
  pub low : ℕ
  pub known : Known chart begun number role prefix low
  pub is_height : height role prefix low ≡ reached

-- the nodes that the run came through, the last one first, all before the height that is reached
abbrev pub Run : Chart → ℕ → List ℕ → ℕ → Type 0
Run chart begun [] reached = Unit {0}
Run chart begun (number ∷ numbers) reached = (height_there : ℕ) × KnownAt chart begun number height_there
    × (height_there < reached) × Run chart begun numbers height_there

-- all numbers of the chart are below the bound
abbrev pub Bounded : Chart → ℕ → Type 0
Bounded chart bound = (number : ℕ) (place : Spot) → chart number ≡ Some place → number < bound

-- A visit of a node that leads to the next. What the nodes' own types keep, bounds on levels and lows, is here too.
pub data Moves (arena : Arena) (number next : ℕ) : Type 0 where
  to_root : (node : HeadNode) → arena number ≡ Some (head node) → node.deleted ≡ false → node.level ≤ MAX_LEVEL →
      node.root ≡ next → Moves arena number next
  to_child : (node : InteriorNode) (child : PlainChild) → arena number ≡ Some (interior node) → node.deleted ≡ false →
      node.level ≤ MAX_LEVEL → node.low < 2 ^ 64 → Among child node.children → child.number ≡ next →
      Moves arena number next
  to_right : (node : BorderNode) (right : Right) → arena number ≡ Some (border node) → node.deleted ≡ false →
      node.right ≡ Some right → right.number ≡ next → Moves arena number next
  to_link : (node : BorderNode) (slice top_number : ℕ) → arena number ≡ Some (border node) → node.deleted ≡ false →
      node.low < 2 ^ 64 → Among (record { slice = slice; content = link top_number }) node.entries →
      top_number ≡ next → Moves arena number next

-- the call knows the node's place, and the node is higher than what was reached
pub record Higher (chart : Chart) (begun number reached : ℕ) : Type 0 where
  pub height : ℕ
  pub known : KnownAt chart begun number height
  pub rises : reached < height

-- A run of moves of a get that began in the epoch: it begins at a node that the call knows, the call moves, and any
-- steps of others come between. A move may also be given by the heights of the two nodes alone: what led to the next
-- node may be gone by then. The run is at a chart and a node, after the given number of moves.
pub data Trail (begun : ℕ) : Chart → ℕ → ℕ → Type 0 where
  begins : {chart : Chart} {number reached : ℕ} → KnownAt chart begun number reached → Trail begun chart number 0
  moves : {chart : Chart} {number next moves_made : ℕ} (arena : Arena) → IsTree arena chart →
      Trail begun chart number moves_made → Moves arena number next → Trail begun chart next (suc moves_made)
  climbs : {chart : Chart} {number next moves_made below above : ℕ} → KnownAt chart begun number below →
      KnownAt chart begun next above → below < above → Trail begun chart number moves_made →
      Trail begun chart next (suc moves_made)
  others : {chart new : Chart} {number moves_made : ℕ} → Evolves begun chart new → Trail begun chart number moves_made →
      Trail begun new number moves_made

-- the same for a call alone: one arena and one chart
pub data Lone (arena : Arena) : ℕ → ℕ → Type 0 where
  at_top : Lone arena 0 0
  goes_on : {number next moves_made : ℕ} → Lone arena number moves_made → Moves arena number next →
      Lone arena next (suc moves_made)

-- the node is on
pub record IsOn (chart : Chart) (number : ℕ) : Type 0 where
  pub role : Role
  pub prefix : List ℕ
  pub low : ℕ
  pub posted : Bool
  pub place : chart number ≡ Some (spot role prefix low (on posted))
