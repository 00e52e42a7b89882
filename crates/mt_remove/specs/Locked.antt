-- What a tidy knows of the nodes that it has locked or marked deleted.
use Rattle.std.specs.Prelude.{ℕ, ◌≡◌, ◌≢◌, ◌<◌, ◌≤◌, ◌+◌, ◌-◌, ◌*◌, ◌^◌, List, [], length, slice_get, Option, Some, None, IsSome, Bool, true, false}
use Rattle.mt_word.specs.Slots.{Slots}
use Rattle.mt_border.specs.Border.{BorderView}
use Rattle.mt_border.specs.Order.{IsLeftOf}
use Rattle.mt_border.specs.declared.unwritten.Unwritten.TheVariants.{Nothing}
use Rattle.mt_border.specs.declared.entry.Content.TheVariants.{Link}
use Rattle.mt_border.specs.declared.entry.RightLink.{RightLink}
use Rattle.mt_interior.specs.Head.{HeadView}
use Rattle.mt_interior.specs.Interior.{InteriorView}
use Rattle.mt_arena.specs.Node.{head_at, interior_at, border_at}
use Rattle.mt_arena.specs.Arena.{ArenaView}
use Rattle.mt_chart.specs.Chart.{top, at_level, spot, on, gone, OnHead}
use Rattle.mt_chart.specs.Steps.{NoTwin}
use Rattle.mt_tree.specs.Keeping.{IsOnIn}
use Rattle.mt_tree.specs.InteriorSteps.{IsInLayer}
use Rattle.mt_steps.specs.declared.way.Way.{Way}
use Rattle.mt_steps.specs.World.{World, NotAmong, NotRetired}
use Rattle.mt_steps.specs.Way.{prefix_of, IsHeadOf}
use Rattle.mt_remove.specs.declared.sign.Emptied.{Emptied}
use Rattle.mt_remove.specs.declared.sign.Emptied.TheVariants.{Child as ByChild, Root as ByRoot}
use Rattle.mt_remove.specs.declared.stage.EmptyLayer.{EmptyLayer}
use Rattle.mt_remove.specs.declared.stage.Layer.{Layer}
use Rattle.mt_remove.specs.declared.stage.Unlinking.{Unlinking}
use Rattle.mt_remove.specs.Known.{IfAbove, IsKnownIn}

-- the call has locked a border, which is on in the layer, and all of which is written
pub record IsOwnBorder (a : ArenaView) (w : World) (number : ℕ) (prefix : List ℕ) : Type 0 where
  pub b : BorderView
  pub named : border_at a.nodes number ≡ Some b
  pub locked : b.version.locked ≡ true
  pub alive : b.version.deleted ≡ false
  pub written : b.unwritten ≡ Nothing
  pub posted : Bool
  pub place : w.chart number ≡ Some (spot (at_level 0) prefix b.low (on posted))
  pub free : NotAmong number w.closing

-- the call has locked an empty border, which is on in the layer from a low above 0, and may be named or not; all of it
-- is written
pub record IsEmptyBorder (a : ArenaView) (w : World) (number : ℕ) (prefix : List ℕ) (posted : Bool) : Type 0 where
  pub b : BorderView
  pub named : border_at a.nodes number ≡ Some b
  pub locked : b.version.locked ≡ true
  pub written : b.unwritten ≡ Nothing
  pub empty : b.live ≡ []
  pub later : 0 < b.low
  pub place : w.chart number ≡ Some (spot (at_level 0) prefix b.low (on posted))
  pub free : NotAmong number w.closing

-- the call has locked a border, which is gone and not retired, and all of which is written
pub record IsGoneBorder (a : ArenaView) (w : World) (number : ℕ) : Type 0 where
  pub b : BorderView
  pub named : border_at a.nodes number ≡ Some b
  pub locked : b.version.locked ≡ true
  pub written : b.unwritten ≡ Nothing
  pub prefix : List ℕ
  pub low : ℕ
  pub epoch : ℕ
  pub place : w.chart number ≡ Some (spot (at_level 0) prefix low (gone epoch))
  pub free : NotAmong number w.closing
  pub kept : NotRetired a.retired number

-- the call has locked an interior with one child, which is not marked deleted, is on in the layer and has no twin
pub record IsLoneInterior (a : ArenaView) (w : World) (number : ℕ) (prefix : List ℕ) : Type 0 where
  pub i : InteriorView
  pub named : interior_at a.nodes number ≡ Some i
  pub locked : i.version.locked ≡ true
  pub alive : i.version.deleted ≡ false
  pub stands : IsInLayer w.chart number prefix
  pub apart : NoTwin w.twins number
  pub one : length i.children ≡ 1

-- the call has locked an interior, which went since its begin and is not retired
pub record IsGoneInterior (begun : ℕ) (a : ArenaView) (w : World) (number : ℕ) : Type 0 where
  pub i : InteriorView
  pub named : interior_at a.nodes number ≡ Some i
  pub locked : i.version.locked ≡ true
  pub level : ℕ
  pub prefix : List ℕ
  pub low : ℕ
  pub epoch : ℕ
  pub place : w.chart number ≡ Some (spot (at_level level) prefix low (gone epoch))
  pub since : begun ≤ epoch
  pub apart : NoTwin w.twins number
  pub kept : NotRetired a.retired number

-- a border that was read as empty can be taken out: an interior leads to it, and it is not the first of its layer; or it
-- is the first, and the border above is known
abbrev pub EmptiedIsKnown : ℕ → List ℕ → Way → ℕ → Emptied → World → Type 0
EmptiedIsKnown begun key way low (ByChild parent) w = (0 < low) × IsKnownIn w begun parent.0 (prefix_of key way)
EmptiedIsKnown begun key way low (ByRoot above) w =
    (8 * way.layer ≤ length key - 1) × IfAbove begun key way.layer w (Some above)

-- and if it is to be that of a whole layer, nothing was to its right
abbrev pub RightFits : Emptied → Option RightLink → Type 0
RightFits (ByChild parent) right = Unit {0}
RightFits (ByRoot above) right = right ≡ None

pub record IsEmptied (begun : ℕ) (key : List ℕ) (way : Way) (border head : ℕ) (emptied : Emptied)
    (link : Option RightLink) (a : ArenaView) (w : World) : Type 0 where
  pub own : IsOwnBorder a w border (prefix_of key way)
  pub known : EmptiedIsKnown begun key way own.b.low emptied w
  pub headed : IsHeadOf w begun head (prefix_of key way)
  pub right : RightFits emptied link

-- the call has marked an empty border deleted, which no interior names; it is to be unlinked from the one in whose
-- interval the slice before its low is; and its right link is the one that was noted
pub record IsUnlinking (begun : ℕ) (a : ArenaView) (w : World) (prefix : List ℕ) (u : Unlinking) : Type 0 where
  pub border : IsEmptyBorder a w u.border.0 prefix false
  pub marked : border.b.version.deleted ≡ true
  pub before : u.slice + 1 ≡ border.b.low
  pub fits : u.slice < 2 ^ 64
  pub noted : border.b.right ≡ u.right
  pub above : IsLeftOf border.b.low border.b.live u.right
  pub headed : IsHeadOf w begun u.head.0 prefix

-- and has locked a border from whose low on that slice is
pub record HasLeft (begun : ℕ) (a : ArenaView) (w : World) (prefix : List ℕ) (u : Unlinking) : Type 0 where
  pub unlinking : IsUnlinking begun a w prefix u
  pub left : IsOwnBorder a w u.node.0 prefix
  pub low : left.b.low ≤ u.slice

-- ---- of an empty layer
-- the call has locked a border, which is empty and has nothing to its right, and all of which is written
pub record IsEmptyRoot (a : ArenaView) (w : World) (number : ℕ) : Type 0 where
  pub b : BorderView
  pub named : border_at a.nodes number ≡ Some b
  pub known : IsSome (w.chart number)
  pub locked : b.version.locked ≡ true
  pub written : b.unwritten ≡ Nothing
  pub empty : b.live ≡ []
  pub right : b.right ≡ None

-- the call has locked a border that is on and not marked deleted, and that is not the root of a layer that is being
-- taken out; all of it is written
pub record IsAbove (a : ArenaView) (w : World) (number : ℕ) : Type 0 where
  pub b : BorderView
  pub named : border_at a.nodes number ≡ Some b
  pub locked : b.version.locked ≡ true
  pub alive : b.version.deleted ≡ false
  pub written : b.unwritten ≡ Nothing
  pub prefix : List ℕ
  pub stands : IsOnIn w.chart number prefix
  pub free : NotAmong number w.closing

-- such a border has the link to the layer
pub record HasLayer (a : ArenaView) (w : World) (layer : Layer) : Type 0 where
  pub border : IsAbove a w layer.above.0
  pub slice : ℕ
  pub linked : slice_get border.b.live layer.place ≡ Some (record { slice = slice; content = Link layer.head })

-- the call has marked a head deleted, which is not retired
pub record IsOwnHead (a : ArenaView) (number : ℕ) : Type 0 where
  pub h : HeadView
  pub named : head_at a.nodes number ≡ Some h
  pub marked : h.version.deleted ≡ true
  pub unlocked : h.version.locked ≡ false
  pub kept : NotRetired a.retired number

-- the same, and it is gone
pub record IsGoneHead (a : ArenaView) (w : World) (number : ℕ) : Type 0 where
  pub head : IsOwnHead a number
  pub prefix : List ℕ
  pub low : ℕ
  pub epoch : ℕ
  pub place : w.chart number ≡ Some (spot top prefix low (gone epoch))

-- the call has locked the root of a layer, which is not marked deleted yet, and knows its head and the border above
pub record IsRootLocked (begun : ℕ) (key : List ℕ) (way : Way) (layer : EmptyLayer)
    (a : ArenaView) (w : World) : Type 0 where
  pub border : IsEmptyRoot a w layer.root.0
  pub alive : border.b.version.deleted ≡ false
  pub free : NotAmong layer.root.0 w.closing
  pub headed : IsHeadOf w begun layer.head.0 (prefix_of key way)
  pub within : 8 * way.layer ≤ length key - 1
  pub known : IfAbove begun key way.layer w (Some layer.above)

-- the same, and it has locked the border above
pub record HasAbove (begun : ℕ) (key : List ℕ) (way : Way) (layer : EmptyLayer) (a : ArenaView) (w : World) : Type 0 where
  pub root : IsRootLocked begun key way layer a w
  pub above : IsAbove a w layer.above.0
  pub apart : layer.above.0 ≢ layer.root.0

-- a place that was noted is one of an order
abbrev pub AtIsPlace : Option ℕ → Slots → Type 0
AtIsPlace None order = Unit {0}
AtIsPlace (Some place) order = place < length order.live

abbrev pub link_sought : Layer → EmptyLayer
link_sought layer = record { above = layer.above; head = layer.head; root = layer.root }

-- the same, and the border above has the link to the layer
pub record IsLinkFound (begun : ℕ) (prefix : List ℕ) (layer : Layer) (a : ArenaView) (w : World) : Type 0 where
  pub root : IsEmptyRoot a w layer.root.0
  pub alive : root.b.version.deleted ≡ false
  pub free : NotAmong layer.root.0 w.closing
  pub headed : IsHeadOf w begun layer.head.0 prefix
  pub above : HasLayer a w layer

-- it has locked both, and has marked the head deleted, which is on and names the root
pub record IsClosing (layer : Layer) (a : ArenaView) (w : World) : Type 0 where
  pub root : IsEmptyRoot a w layer.root.0
  pub above : HasLayer a w layer
  pub head : IsOwnHead a layer.head.0
  pub names : head.h.root ≡ layer.root
  pub prefix : List ℕ
  pub stands : OnHead w.chart layer.head.0 prefix
