-- What a tidy notes on its way through a layer, and the signs that it sees at its place.
use Rattle.std.specs.Prelude.{ℕ, ◌==◌, not, if◌then◌else◌, Bool, true, false, List, length, Option, Some, None, position}
use Rattle.mt_types.specs.declared.numbers.NodeNo.{NodeNo}
use Rattle.mt_border.specs.declared.entry.RightLink.{RightLink}
use Rattle.mt_interior.specs.declared.child.Child.{Child}
use Rattle.mt_arena.specs.declared.node.Node.{Node}
use Rattle.mt_arena.specs.declared.node.Node.TheVariants.{Head, Interior, Border}
use Rattle.mt_border.specs.Border.{BorderView}
use Rattle.mt_border.specs.Slots.{order_shown}
use Rattle.mt_steps.specs.declared.way.Way.{Way}
use Rattle.mt_steps.specs.declared.reader.Glance.{Glance}
use Rattle.mt_steps.specs.declared.reader.Reader.TheVariants.{Bounded}
use Rattle.mt_steps.specs.Finding.{Finding}
use Rattle.mt_remove.specs.declared.noted.Came.{Came}
use Rattle.mt_remove.specs.declared.noted.Came.TheVariants.{Head as FromHead, Child as AsChild, Left as FromLeft}
use Rattle.mt_remove.specs.declared.noted.Namer.{Namer}
use Rattle.mt_remove.specs.declared.noted.Namer.TheVariants.{Head as NamedByHead, Interior as NamedByInterior}
use Rattle.mt_remove.specs.declared.noted.OneChild.{OneChild}
use Rattle.mt_remove.specs.declared.noted.Noted.{Noted}
use Rattle.mt_remove.specs.declared.sign.Sign.{Sign}
use Rattle.mt_remove.specs.declared.sign.Sign.TheVariants.{Nothing, Empty, LoneChild}
use Rattle.mt_remove.specs.declared.sign.Emptied.TheVariants.{Child as ByChild, Root as ByRoot}

-- ---- on the way
-- the first of these children is the node
abbrev pub is_at_start : Option ℕ → Bool
is_at_start None = false
is_at_start (Some place) = place == 0

abbrev pub is_first : NodeNo → List Child → Bool
is_first node children = is_at_start (position (λ (child : Child). child.node.0 == node.0) children)

-- what names an interior to which a call came so, in the layer of a head
abbrev pub namer : Came → NodeNo → Namer
namer FromHead head = NamedByHead head
namer (AsChild parent first) head = NamedByInterior parent
namer FromLeft head = NamedByHead head

abbrev pub namer_of : Noted → Namer
namer_of noted = namer noted.came noted.head

-- in the layer of a head, below a border: what was noted above counts no more
abbrev pub noted_below : NodeNo → NodeNo → Noted
noted_below above head = record { head = head; above = Some above; came = FromHead; lone = None; glance = None }

-- from a node to the next in its layer
abbrev pub noted_at : Node → NodeNo → NodeNo → Noted → Noted
noted_at (Head head) node next noted = record noted { came = FromHead; glance = None }
noted_at (Interior interior) node next noted =
    record noted {
      came = AsChild node (is_first next interior.children);
      lone = if length interior.children == 1
          then Some (record { interior = node; child = next; namer = namer_of noted })
          else noted.lone;
      glance = None;
    }
noted_at (Border border) node next noted = record noted { came = FromLeft; glance = None }

-- what is noted once a call advances from a node that it visits
abbrev pub noted_from : Node → Way → Way → Noted → Noted
noted_from node way next noted =
    if not (next.layer == way.layer) then noted_below way.node next.node else noted_at node way.node next.node noted

-- it reads the order next
abbrev pub AtOrder : Finding → Type 0
AtOrder (Bounded counters right) = Unit {0}
AtOrder _ = ⊥

-- what is noted once it reads the next field of a border: if that is the order, what it has read up to it
abbrev pub glanced : Finding → Option BorderView → Noted → Noted
glanced (Bounded counters right) (Some b) noted =
    record noted { glance = Some (record { counters = counters; right = right; order = order_shown b }) }
glanced _ _ noted = noted

-- ---- at the place
-- the border was empty
abbrev pub was_empty : Glance → Bool
was_empty glance = length glance.order.live == 0

-- nothing was to the right of the border
abbrev pub last_sign : Glance → Option RightLink → NodeNo → Sign
last_sign glance None above = Empty (ByRoot above) glance
last_sign glance (Some right) above = Nothing

-- a border that was empty, is the first and was the last of its layer, and was reached straight from the layer's head,
-- below a border
abbrev pub layer_sign : ℕ → Came → Option NodeNo → Option Glance → Sign
layer_sign low FromHead (Some above) (Some glance) =
    if was_empty glance then (if low == 0 then last_sign glance glance.right above else Nothing) else Nothing
layer_sign low FromHead (Some above) None = Nothing
layer_sign low FromHead None glance = Nothing
layer_sign low FromLeft above glance = Nothing
layer_sign low (AsChild parent first) above glance = Nothing

-- an interior with one child, if one was noted
abbrev pub lone_sign : Option OneChild → Sign → Sign
lone_sign None otherwise = otherwise
lone_sign (Some lone) otherwise = LoneChild lone

-- a border that was empty is dropped from the interior that it was reached from, but for the first child of one, and for
-- the first border of a layer
abbrev pub border_sign : ℕ → Came → Option Glance → Sign → Sign
border_sign low FromHead glance otherwise = otherwise
border_sign low FromLeft glance otherwise = otherwise
border_sign low (AsChild parent true) glance otherwise = otherwise
border_sign low (AsChild parent false) None otherwise = otherwise
border_sign low (AsChild parent false) (Some glance) otherwise =
    if was_empty glance then (if low == 0 then otherwise else Empty (ByChild parent) glance) else otherwise

-- THE FIRST RULE WHOSE SIGNS ARE SEEN at a border of this low, by what was noted on the way to it and read of it: an empty
-- border; an interior with one child; an empty layer
abbrev pub sign_of : ℕ → Noted → Sign
sign_of low noted =
    border_sign low noted.came noted.glance (lone_sign noted.lone (layer_sign low noted.came noted.above noted.glance))
