-- What the proofs know of the tree between two steps, and what a step of one call leaves of it to the others.
use Rattle.std.specs.Prelude.{ℕ, suc, ◌≡◌, ◌≢◌, ◌≤◌, ◌⊎◌, ◌↔◌, List, length, Option, Some, None, IsSome, IsSomeAnd, All, Bool, true, false}
use Rattle.mt_types.specs.declared.limits.TheConstants.{MAX_KEY_BYTES}
use Rattle.mt_types.specs.declared.row.Row.{Row}
use Rattle.mt_slice.specs.Place.{Place, AreBytes, place_of}
use Rattle.mt_arena.specs.Node.{node_at, head_at, interior_at, border_at}
use Rattle.mt_border.specs.declared.unwritten.Unwritten.TheVariants.{Nothing}
use Rattle.mt_border.specs.Border.{BorderView}
use Rattle.mt_arena.specs.Arena.{ArenaView}
use Rattle.mt_interior.specs.Head.{HeadView}
use Rattle.mt_arena.specs.declared.retired.Retired.{Retired}
use Rattle.mt_arena.specs.declared.node.Node.{Node}
use Rattle.mt_arena.specs.declared.node.Node.TheVariants.{Head, Interior, Border}
use Rattle.mt_chart.specs.Tree.{Arena, Among, Has}
use Rattle.mt_chart.specs.Chart.{Role, at_level, gone, spot, Chart, OnHead, Evolves}
use Rattle.mt_chart.specs.Steps.{Twin, AreTwins}
use Rattle.mt_chart.specs.Walk.{IsOn}
use Rattle.mt_tree.specs.Seen.{arena_seen}
use Rattle.mt_tree.specs.Fields.{BorderAges}
use Rattle.mt_tree.specs.Keeping.{IsIndexAt}
use Rattle.mt_tree.specs.InteriorSteps.{IsInLayer}
use Rattle.mt_tree.specs.Descent.{is_marked}
use Rattle.mt_steps.specs.OneNode.{ChangesOneNode}

-- what the proofs know besides the arena: the place of each node, which interiors are being split, and which borders
-- are the roots of layers that are being taken out
pub record World : Type 0 where
  pub twins : List Twin
  pub closing : List ℕ
  pub chart : Chart

-- the place is that of a key, of bytes and not too long
pub record IsKeyPlace (place : Place) : Type 0 where
  pub key : List ℕ
  pub bytes : AreBytes key
  pub fits : length key ≤ MAX_KEY_BYTES
  pub is : place_of key ≡ place

-- each row that the tree has is at the place of a key
pub record RowsAreOfKeys (a : ArenaView) : Type 0 where
  pub key_of : (place : Place) (row : Row) → Has (arena_seen a) place row → IsKeyPlace place

-- and so is each row that these arenas had
abbrev pub AreOfKeys : List Arena → Type 0
AreOfKeys arenas = (arena : Arena) → Among arena arenas → (place : Place) (row : Row) → Has arena place row
    → IsKeyPlace place

-- the number names a border that is locked
abbrev pub IsLockedRoot : ArenaView → ℕ → Type 0
IsLockedRoot a number = IsSomeAnd (border_at a.nodes number) (λ b. b.version.locked ≡ true)

-- No head of the tree is locked. One that is marked deleted is the head of a layer that is being taken out: its root is
-- among the closing borders, each of which is locked.
pub record HeadsStand (a : ArenaView) (closing : List ℕ) (chart : Chart) : Type 0 where
  pub alive : (number : ℕ) (prefix : List ℕ) (head : HeadView) → OnHead chart number prefix
      → head_at a.nodes number ≡ Some head → ((head.version.deleted ≡ false) ⊎ Among head.root.0 closing)
      × (head.version.locked ≡ false)
  pub roots : (number : ℕ) → Among number closing → IsLockedRoot a number

-- the number names an interior of the tree, which is locked
pub record IsLockedInterior (a : ArenaView) (chart : Chart) (number : ℕ) : Type 0 where
  pub known : IsSome (chart number)
  pub locked : IsSomeAnd (interior_at a.nodes number) (λ interior. interior.version.locked ≡ true)

-- the two halves of each interior that is being split are locked
pub record TwinsAreLocked (a : ArenaView) (chart : Chart) (twins : List Twin) : Type 0 where
  pub locked : (one other : ℕ) → AreTwins twins one other → IsLockedInterior a chart one
      × IsLockedInterior a chart other

-- the node is locked
abbrev pub is_locked : Node → Bool
is_locked (Head head) = head.version.locked
is_locked (Interior interior) = interior.version.locked
is_locked (Border border) = border.version.locked

abbrev pub IsLocked : Option Node → Type 0
IsLocked None = ⊥
IsLocked (Some node) = is_locked node ≡ true

-- the number, if it is a border or interior that is on and not locked, is not marked deleted
abbrev pub IsAliveIfFree : ArenaView → Chart → ℕ → Type 0
IsAliveIfFree a chart number = (prefix : List ℕ) → IsInLayer chart number prefix → (node : Node) →
    node_at a.nodes number ≡ Some node → is_locked node ≡ false → is_marked node ≡ false

-- a border or interior of the tree that is not locked is not marked deleted
pub record FreeAreAlive (a : ArenaView) (chart : Chart) : Type 0 where
  pub each : (number : ℕ) → IsAliveIfFree a chart number

-- a retired node is gone, since an epoch that is not after that of its retiring, which is not to come; and it is not
-- locked
pub record IsGone (a : ArenaView) (now : ℕ) (chart : Chart) (node : Retired) : Type 0 where
  pub role : Role
  pub prefix : List ℕ
  pub low : ℕ
  pub epoch : ℕ
  pub place : chart node.node.0 ≡ Some (spot role prefix low (gone epoch))
  pub before : epoch ≤ node.epoch
  pub dated : node.epoch ≤ now
  pub unlocked : IsLocked (node_at a.nodes node.node.0) → ⊥

-- what is retired is gone
pub record RetiredAreGone (a : ArenaView) (now : ℕ) (chart : Chart) : Type 0 where
  pub each : All (IsGone a now chart) a.retired

-- the tree is an index in an epoch, in this world
pub record IsWorld (a : ArenaView) (now : ℕ) (w : World) : Type 0 where
  pub index : IsIndexAt a now w.twins w.chart
  pub keys : RowsAreOfKeys a
  pub heads : HeadsStand a w.closing w.chart
  pub alive : FreeAreAlive a w.chart
  pub twins : TwinsAreLocked a w.chart w.twins
  pub retired : RetiredAreGone a now w.chart

-- the number is not retired
abbrev pub NotRetired : List Retired → ℕ → Type 0
NotRetired retired number = All (λ node. node.node.0 ≢ number) retired

-- the number names a head that is marked deleted, and that is not retired yet
pub record IsMarkedHead (a : ArenaView) (number : ℕ) : Type 0 where
  pub marked : IsSomeAnd (head_at a.nodes number) (λ head. head.version.deleted ≡ true)
  pub kept : NotRetired a.retired number

-- a number is taken: it names a locked node; or a spare, which the chart doesn't know; or a head that is marked deleted
-- and is not retired
abbrev pub IsTaken : ArenaView → World → ℕ → Type 0
IsTaken a w number = IsLocked (node_at a.nodes number)
    ⊎ ((IsSome (node_at a.nodes number) × (w.chart number ≡ None)) ⊎ IsMarkedHead a number)

-- the number has the same twins
abbrev pub HasSameTwins : List Twin → List Twin → ℕ → Type 0
HasSameTwins twins then number = (one other : ℕ) → (one ≡ number) ⊎ (other ≡ number) → AreTwins then one other
    ↔ AreTwins twins one other

-- the number names the same node, which is at the same place, has the twins that it had, and is closing or retired
-- only if it was
pub record IsSame (a after : ArenaView) (w next : World) (number : ℕ) : Type 0 where
  pub node : node_at after.nodes number ≡ node_at a.nodes number
  pub spot : next.chart number ≡ w.chart number
  pub twins : HasSameTwins w.twins next.twins number
  pub closing : Among number next.closing → Among number w.closing
  pub retired : NotRetired after.retired number ↔ NotRetired a.retired number

-- not one of these numbers
abbrev pub NotAmong : ℕ → List ℕ → Type 0
NotAmong number numbers = Among number numbers → ⊥

-- the number is a border of the tree, and is locked, and not by a call that takes its layer out; it is not marked
-- deleted, and all of it is written
pub record IsLockedBorder (a : ArenaView) (w : World) (number : ℕ) : Type 0 where
  pub b : BorderView
  pub named : border_at a.nodes number ≡ Some b
  pub known : IsSome (w.chart number)
  pub locked : b.version.locked ≡ true
  pub alive : b.version.deleted ≡ false
  pub written : b.unwritten ≡ Nothing
  pub free : NotAmong number w.closing

-- each interior among these numbers that is gone went in this epoch or later
abbrev pub GoneSince : ℕ → World → List ℕ → Type 0
GoneSince begun w numbers = (number : ℕ) → Among number numbers → (below : ℕ) (prefix : List ℕ) (low epoch : ℕ)
    → w.chart number ≡ Some (spot (at_level (suc below)) prefix low (gone epoch)) → begun ≤ epoch

-- each border that the chart knows has aged; its right link is as it was, unless it is on
pub record BordersAge (a after : ArenaView) (w next : World) : Type 0 where
  pub ages : (number : ℕ) (b then : BorderView) → IsSome (w.chart number) → border_at a.nodes number ≡ Some b
      → border_at after.nodes number ≡ Some then → BorderAges b then
  pub rights : (number : ℕ) (b then : BorderView) → IsSome (w.chart number) → border_at a.nodes number ≡ Some b
      → border_at after.nodes number ≡ Some then → IsOn next.chart number ⊎ (then.right ≡ b.right)

-- and of what the chart knows at most one node changes, in a step that may be the commit of this number
pub record NodesAge (commit : Option ℕ) (a after : ArenaView) (w next : World) : Type 0 where
  pub borders : BordersAge a after w next
  pub one : ChangesOneNode commit w.chart a after

-- what a step of one call leaves, which owned these numbers and then owns those, and which may be the commit of this
-- number: there is a next world in which the tree is an index; all that calls rely on stays; each number that is taken
-- by another call is as it was, and is not this call's; and what is then to be true of this call is. And what is then
-- taken is this call's, or was taken and was not this call's: no call leaves a lock or a spare after it. The chart is
-- changed at numbers of this call alone. Each border that the chart knows ages, and at most one node that it knows
-- changes.
pub record GoesBy (commit : Option ℕ) (now : ℕ) (a after : ArenaView) (w : World) (owned owns : List ℕ)
    (Then : World → Type 0) : Type 0 where
  pub next : World
  pub world : IsWorld after now next
  pub evolves : (begun : ℕ) → begun ≤ now → Evolves begun w.chart next.chart
  pub leaves : (other : ℕ) → IsTaken a w other → NotAmong other owned → IsSame a after w next other
      × NotAmong other owns
  pub takes : (number : ℕ) → IsTaken after next number → Among number owns
      ⊎ (IsTaken a w number × NotAmong number owned)
  pub spots : (number : ℕ) → NotAmong number owned → NotAmong number owns → next.chart number ≡ w.chart number
  pub age : NodesAge commit a after w next
  pub true : Then next

-- the same of a step that is no commit
abbrev pub Goes : ℕ → ArenaView → ArenaView → World → List ℕ → List ℕ → (World → Type 0) → Type 0
Goes = GoesBy None
