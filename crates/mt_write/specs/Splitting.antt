-- A split: what it makes of what was read of the border, the halves, and what is true while it is under way.
use Rattle.std.specs.Prelude.{ℕ, zero, suc, ◌≡◌, ◌+◌, ◌==◌, ◌⊎◌, if◌then◌else◌, List, [], ◌∷◌, ◌++◌, length, map, slice_get, slice_index, Option, Some, ◌-◌, take, ◌≢◌, ◌<◌, ◌≤◌, drop, Bool, true, false}
use Rattle.mt_types.specs.declared.numbers.NodeNo.{NodeNo}
use Rattle.mt_word.specs.declared.permutation_word.TheConstants.{SLOTS}
use Rattle.mt_border.specs.declared.entry.Content.TheVariants.{Link}
use Rattle.mt_border.specs.declared.entry.Entry.{Entry}
use Rattle.mt_border.specs.declared.field.ValuePart.{ValuePart}
use Rattle.mt_border.specs.declared.field.ValuePart.TheVariants.{Row as RowPart, Link as LinkPart}
use Rattle.mt_arena.specs.Arena.{ArenaView}
use Rattle.mt_arena.specs.declared.part.Field.TheVariants.{Value as ValueField}
use Rattle.mt_arena.specs.declared.part.Part.TheVariants.{Value as ValuePartOf}
use Rattle.mt_steps.specs.Listing.{entry_for}
use Rattle.mt_steps.specs.Standing.{Lends}
use Rattle.mt_steps.specs.declared.entering.Outline.{Outline}
use Rattle.mt_steps.specs.declared.listing.SlotKey.{SlotKey}
use Rattle.mt_write.specs.declared.writing.Stage.{Stage}
use Rattle.mt_write.specs.declared.writing.Stage.TheVariants.{Copies, GivesBack, Spared}
use Rattle.std.specs.Option.{option_map}
use Rattle.mt_slice.specs.Place.{first_slice, place_of, slice_number}
use Rattle.mt_word.specs.Slots.{Slots}
use Rattle.mt_border.specs.Border.{BorderView, entries_of, with_entries, new_border}
use Rattle.mt_border.specs.Table.{picked}
use Rattle.mt_border.specs.Cut.{IsBestCut, slices}
use Rattle.mt_chart.specs.Tree.{Below}
use Rattle.mt_border.specs.Order.{IsBorder}
use Rattle.mt_border.specs.declared.unwritten.Unwritten.TheVariants.{Nothing, Order}
use Rattle.mt_border.specs.declared.found.Found.TheVariants.{Absent}
use Rattle.mt_arena.specs.Node.{border_at}
use Rattle.mt_tree.specs.Seen.{right_seen}
use Rattle.mt_tree.specs.Descent.{found_for}
use Rattle.mt_steps.specs.Entering.{entry_noted}
use Rattle.mt_steps.specs.declared.way.Way.{Way}
use Rattle.mt_write.specs.declared.writing.Halves.{Halves}
use Rattle.mt_chart.specs.Chart.{spot, at_level, on}
use Rattle.mt_steps.specs.World.{World, NotAmong}
use Rattle.mt_steps.specs.Way.{prefix_of, rest_of, IsLayerOf}

-- the halves of a border that is split: the right one is on in the layer of the prefix from its low on, and nothing may
-- name it yet
pub record IsSplit (prefix : List ℕ) (a : ArenaView) (w : World) (split : Halves) : Type 0 where
  pub apart : split.left.0 ≢ split.half.0
  pub low : ℕ
  pub place : w.chart split.half.0 ≡ Some (spot (at_level 0) prefix low (on false))
  pub low_is : (b : BorderView) → border_at a.nodes split.half.0 ≡ Some b → b.low ≡ low

-- its right link, its order and its keys were read
pub record IsRead (b : BorderView) (outline : Outline) : Type 0 where
  pub right : outline.right ≡ b.right
  pub order : outline.order ≡ b.order
  pub keys : outline.keys ≡ map entry_noted b.live

-- the border is full, has no entry of the key, which belongs at a place, and may be cut in two
pub record IsCutAt (key : List ℕ) (way : Way) (b : BorderView) (cut place : ℕ) : Type 0 where
  pub sound : IsBorder b
  pub full : length b.live ≡ SLOTS
  pub best : IsBestCut (slices b.live) cut
  pub middle : Entry
  pub is_middle : slice_get b.live cut ≡ Some middle
  pub absent : found_for (rest_of key way) b.live ≡ Absent place

-- these are the first entries of its upper half, and some are left
pub record AreCopied (b : BorderView) (cut : ℕ) (entries : List Entry) : Type 0 where
  pub first : entries ≡ take (length entries) (drop cut b.live)
  pub some : cut + length entries < SLOTS

-- the half of a border, from a place on, before it is filled
abbrev pub empty_half : BorderView → Entry → BorderView
empty_half b middle = new_border b.layer middle.slice true

-- and once it is
abbrev pub upper_half : BorderView → ℕ → Entry → BorderView
upper_half b cut middle = with_entries (empty_half b middle) (drop cut b.live) b.right

-- the half of a border to which the key belongs has room, and no entry of the key, which belongs at a place
pub record IsHalf (key : List ℕ) (way : Way) (place : ℕ) (b : BorderView) : Type 0 where
  pub room : length b.live < SLOTS
  pub absent : found_for (rest_of key way) b.live ≡ Absent place

-- IT HAS LINKED THE HALF. Others still read the order as it was, with the entries that are in the half; and the half to
-- which the key belongs has room and no entry of the key.
pub record IsHalfLinked (a : ArenaView) (w : World) (key : List ℕ) (way : Way) (half : NodeNo) (cut place : ℕ) : Type 0 where
  pub layer : IsLayerOf key way
  pub b : BorderView
  pub named : border_at a.nodes way.node.0 ≡ Some b
  pub upper : BorderView
  pub filled : border_at a.nodes half.0 ≡ Some upper
  pub posted : Bool
  pub charted : w.chart way.node.0 ≡ Some (spot (at_level 0) (prefix_of key way) b.low (on posted))
  pub halves : IsSplit (prefix_of key way) a w (record { left = way.node; half = half })
  pub right : b.right ≡ Some (record { low = upper.low; node = half })
  pub from_low : b.low ≤ first_slice (place_of (rest_of key way))
  pub to_right : Below (first_slice (place_of (rest_of key way))) (option_map right_seen upper.right)
  pub locked : b.version.locked ≡ true
  pub alive : b.version.deleted ≡ false
  pub free : NotAmong way.node.0 w.closing
  pub upper_locked : upper.version.locked ≡ true
  pub upper_alive : upper.version.deleted ≡ false
  pub upper_written : upper.unwritten ≡ Nothing
  pub upper_free : NotAmong half.0 w.closing
  pub lower_half : slice_number (rest_of key way) < upper.low → IsHalf key way place b
  pub upper_half : upper.low ≤ slice_number (rest_of key way) → IsHalf key way (place - cut) upper
  pub shown : Slots
  pub uncut : b.unwritten ≡ Order shown
  pub moved : entries_of (picked b.slots shown.live) ≡ b.live ++ upper.live

-- the way leads on to the half of a border where the key belongs, by the low of the upper half; and its place there
abbrev pub IsHalfOf : List ℕ → Way → NodeNo → ℕ → ℕ → ℕ → Way → ℕ → Type 0
IsHalfOf key way half low cut place goal there = ((slice_number (rest_of key way) < low) × (goal ≡ way) × (there ≡ place))
    ⊎ ((low ≤ slice_number (rest_of key way)) × (goal ≡ record { node = half; layer = way.layer })
    × (there ≡ place - cut))

-- the slices of keys that were noted
abbrev pub key_slices : List SlotKey → List ℕ
key_slices keys = map (λ key. key.slice) keys

-- the entry of a key that was noted, with this value; a layer's key has no row
abbrev pub entry_copied : SlotKey → ValuePart → Option Entry
entry_copied key (RowPart row) = entry_for key.slice key.rest row.now
entry_copied key (LinkPart head) = Some (record { slice = key.slice; content = Link head })

-- the stage once these entries of the upper half are copied: all of them, or some
abbrev pub copied_stage : NodeNo → ℕ → ℕ → Outline → List Entry → Stage
copied_stage half cut place outline entries = if cut + length entries == SLOTS then Spared half cut place outline.right entries
    else Copies half cut place outline entries

-- A STEP THAT COPIES is lent the value of the slot at a place, and copies the entry that this makes with the key there
pub record CopiesValue (a : ArenaView) (number : ℕ) (outline : Outline) (place : ℕ) (entries copies : List Entry) : Type 0 where
  pub value : ValuePart
  pub lent : Lends a number (ValueField (slice_index outline.order.live place)) (ValuePartOf value)
  pub key : SlotKey
  pub noted : slice_get outline.keys place ≡ Some key
  pub entry : Entry
  pub is : entry_copied key value ≡ Some entry
  pub more : copies ≡ entries ++ (entry ∷ [])

-- THIS NUMBER OF ENTRIES MORE are copied, after these
abbrev pub CopiesFrom : ArenaView → ℕ → Outline → ℕ → List Entry → ℕ → List Entry → Type 0
CopiesFrom a number outline cut entries zero copies = copies ≡ entries
CopiesFrom a number outline cut entries (suc n) copies = (before : List Entry)
    × CopiesFrom a number outline cut entries n before × CopiesValue a number outline (cut + length before) before copies

-- of the upper half, the next entry; or it is to give the half back, if out of memory
abbrev pub CopiesOn : ArenaView → ℕ → NodeNo → ℕ → ℕ → Outline → List Entry → Stage → Type 0
CopiesOn a number half cut place outline entries new =
    ((copies : List Entry) × CopiesValue a number outline (cut + length entries) entries copies
    × (new ≡ copied_stage half cut place outline copies)) ⊎ (new ≡ GivesBack half)
