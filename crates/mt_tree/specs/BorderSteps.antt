-- What a caller must know of a border before it changes it, and what the change then is to the tree.
use Rattle.std.specs.Prelude.{ℕ, ◌≡◌, ◌≢◌, ◌<◌, ◌≤◌, length, take, drop, slice_get, IsSome, IsSomeAnd, Option, Some, None, List, [], ◌∷◌, true, false}
use Rattle.mt_slice.specs.Place.{place_of}
use Rattle.mt_types.specs.declared.row.Row.{Row}
use Rattle.mt_types.specs.declared.numbers.NodeNo.{NodeNo}
use Rattle.mt_word.specs.declared.permutation_word.TheConstants.{SLOTS}
use Rattle.mt_word.specs.Slots.{Slots}
use Rattle.mt_border.specs.Entry.{entry_row}
use Rattle.mt_border.specs.Border.{BorderView, first_held, next_row, row_at, suffix_at, with_shown}
use Rattle.mt_border.specs.Order.{IsBorder, IsLeftOf, AreBelow}
use Rattle.mt_border.specs.Table.{number_at}
use Rattle.mt_border.specs.declared.entry.Content.TheVariants.{Long, Link}
use Rattle.mt_border.specs.declared.entry.Entry.{Entry}
use Rattle.mt_border.specs.declared.entry.RightLink.{RightLink}
use Rattle.mt_border.specs.declared.slot_table.Slot.{Slot}
use Rattle.mt_border.specs.declared.unwritten.Unwritten.TheVariants.{Nothing, Value, Order, LinkAt, MarkAt}
use Rattle.mt_border.specs.declared.unwritten.SlotKey.{SlotKey}
use Rattle.mt_border.specs.Keys.{key_seen, IsKey}
use Rattle.mt_interior.specs.Head.{HeadView}
use Rattle.mt_arena.specs.Node.{Nodes, head_at, border_at}
use Rattle.mt_arena.specs.Arena.{ArenaView}
use Rattle.mt_chart.specs.Chart.{on, gone, top, at_level, spot, Chart, OnHead, Changes}
use Rattle.mt_chart.specs.Steps.{Twin, AreTwins}
use Rattle.mt_tree.specs.Seen.{entry_place}
use Rattle.mt_tree.specs.Keeping.{IsOnIn, KeepsAlong, AddsRow, RemovesRow, ReplacesRow}

-- A KEY IS WRITTEN into the first unused slot, of which the border has one. If the slot held a key, the border is marked.
pub record MayWriteKey (b : BorderView) (key : SlotKey) : Type 0 where
  pub room : length b.live < SLOTS
  pub locked : b.version.locked ≡ true
  pub written : b.unwritten ≡ Nothing
  pub marked : first_held b.unused ≡ true → b.version.inserting ≡ true
  pub whole : IsKey (key_seen key)

-- ITS VALUE IS WRITTEN: the key is
abbrev pub AwaitsSome : BorderView → Type 0
AwaitsSome b = (key : SlotKey) × (b.unwritten ≡ Value key)

-- THE ROW OF THE FIRST UNUSED SLOT IS DROPPED: the border has such a slot, and is marked, so that no call takes what it
-- reads there for the row
pub record MayForget (b : BorderView) : Type 0 where
  pub room : length b.live < SLOTS
  pub marked : b.version.inserting ≡ true
  pub written : b.unwritten ≡ Nothing

-- A ROW IS SHOWN. The border has room, its first unused slot holds a row, whose key and value are written, and once that
-- is live at the place, the border is in order and in its interval.
pub record MayShowAt (b : BorderView) (place version : ℕ) : Type 0 where
  pub room : length b.live < SLOTS
  pub written : b.unwritten ≡ Nothing
  pub within : place ≤ length b.live
  pub row : IsSome (next_row b.unused)
  pub sound : IsBorder (with_shown b place version)

-- the row that the border's first unused slot holds is then at its place, made by the commit of this number
pub record ShowsNext (a after : ArenaView) (number version : ℕ) : Type 0 where
  pub shows : (b : BorderView) (slot : Slot) (slots : List Slot) (row : Row) → border_at a.nodes number ≡ Some b →
      b.unused ≡ slot ∷ slots → entry_row slot.entry ≡ Some row →
      AddsRow a after number (entry_place slot.entry) (record row { version = version })

-- A ROW IS HIDDEN OR REPLACED. The entry at the place of the border has a row.
pub record HasRowAt (b : BorderView) (place : ℕ) : Type 0 where
  pub within : place < length b.live
  pub row : IsSome (row_at place b.live)

-- the row of the entry at the border's place is no longer there
pub record HidesRowAt (a after : ArenaView) (number place : ℕ) : Type 0 where
  pub hides : (b : BorderView) (entry : Entry) → border_at a.nodes number ≡ Some b →
      slice_get b.live place ≡ Some entry → RemovesRow a after number (entry_place entry)

-- another row stands where the row of the entry at the border's place did
pub record SetsRowAt (a after : ArenaView) (number place : ℕ) (row : Row) : Type 0 where
  pub sets : (b : BorderView) (entry : Entry) → border_at a.nodes number ≡ Some b →
      slice_get b.live place ≡ Some entry → ReplacesRow a after number (entry_place entry) row

-- A HALF IS LINKED. The second border is filled with the upper entries of the first, which is locked and marked as one
-- that is being split, those from the place `keep` on, and is to stand between it and its right neighbour.
pub record IsUpperHalf (b half : BorderView) (keep : ℕ) : Type 0 where
  pub locked : b.version.locked ≡ true
  pub splitting : b.version.splitting ≡ true
  pub written : b.unwritten ≡ Nothing
  pub within : keep ≤ length b.live
  pub upper : half.live ≡ drop keep b.live
  pub right : half.right ≡ b.right
  pub above_low : b.low < half.low
  pub above_kept : AreBelow half.low (take keep b.live)

-- the chart then: the border is on, in some layer, whose head is not marked deleted where it names the border; the
-- half, of this low, was unknown, and is on in that layer from then on, but no head or interior may name it
pub record ChartsHalf (a : ArenaView) (number half low : ℕ) (chart next : Chart) : Type 0 where
  pub prefix : List ℕ
  pub stands : IsOnIn chart number prefix
  pub unknown : chart half ≡ None
  pub charted : Changes chart next half (Some (spot (at_level 0) prefix low (on false)))
  pub head_alive : (head_number : ℕ) (head : HeadView) → OnHead chart head_number prefix →
      head_at a.nodes head_number ≡ Some head → head.root.0 ≡ number → head.version.deleted ≡ false

-- the half is linked: the tree is an index at that next chart, with the same rows
pub record LinksHalfAt (a after : ArenaView) (number half : ℕ) : Type 0 where
  pub links : (upper : BorderView) → border_at a.nodes half ≡ Some upper →
      KeepsAlong a after (λ now twins chart next. ChartsHalf a number half upper.low chart next)

-- ITS ORDER IS CUT: it is still to be, as others read it
abbrev pub AwaitsSomeCut : BorderView → Type 0
AwaitsSomeCut b = (shown : Slots) × (b.unwritten ≡ Order shown)

-- A KEY IS MARKED UNSTABLE, which continues after its slice. The border is locked.
pub record MayMarkUnstable (b : BorderView) (place : ℕ) : Type 0 where
  pub within : place < length b.live
  pub long : IsSome (suffix_at place b.live)
  pub locked : b.version.locked ≡ true
  pub written : b.unwritten ≡ Nothing

-- IT IS MARKED AS A LAYER'S: its value is the link
abbrev pub AwaitsSomeMark : BorderView → Type 0
AwaitsSomeMark b = (number : ℕ) × (suffix : List ℕ) × (b.unwritten ≡ MarkAt number suffix)

-- A LAYER IS MADE. The entry at the place of a border is of a longer key, with this suffix and row, and is marked unstable;
-- the head names, at level 0, a border that is not marked deleted, from low 0 on and with nothing to its right, and that
-- has the same row alone, at the place of the suffix.
pub record HasLayerFor (nodes : Nodes) (b : BorderView) (place head : ℕ) : Type 0 where
  pub slice : ℕ
  pub suffix : List ℕ
  pub row : Row
  pub layer_head : HeadView
  pub layer_root : BorderView
  pub entry : Entry
  pub long : slice_get b.live place ≡ Some (record { slice = slice; content = Long suffix row })
  pub unstable : b.unwritten ≡ LinkAt (number_at place b.order)
  pub is_head : head_at nodes head ≡ Some layer_head
  pub level : layer_head.level ≡ 0
  pub is_root : border_at nodes layer_head.root.0 ≡ Some layer_root
  pub alive : layer_root.version.deleted ≡ false
  pub low : layer_root.low ≡ 0
  pub right : layer_root.right ≡ None
  pub alone : layer_root.live ≡ entry ∷ []
  pub same_row : entry_row entry ≡ Some row
  pub same_place : entry_place entry ≡ place_of suffix

-- the chart then: the border is on, in some layer; the head and its root were unknown, and are on from then on, in the
-- layer below this slice
pub record ChartsLayer (number head root slice : ℕ) (chart next : Chart) : Type 0 where
  pub prefix : List ℕ
  pub stands : IsOnIn chart number prefix
  pub head_unknown : chart head ≡ None
  pub root_unknown : chart root ≡ None
  pub head_charted : next head ≡ Some (spot top (slice ∷ prefix) 0 (on true))
  pub root_charted : next root ≡ Some (spot (at_level 0) (slice ∷ prefix) 0 (on true))
  pub others : (other : ℕ) → other ≢ head → other ≢ root → next other ≡ chart other

-- the layer is made: the tree is an index at that next chart, with the same rows
pub record MakesLayerAt (a after : ArenaView) (number place head : ℕ) : Type 0 where
  pub makes : (b : BorderView) (entry : Entry) (layer_head : HeadView) → border_at a.nodes number ≡ Some b →
      slice_get b.live place ≡ Some entry → head_at a.nodes head ≡ Some layer_head →
      KeepsAlong a after (λ now twins chart next. ChartsLayer number head layer_head.root.0 entry.slice chart next)

-- A BORDER IS UNLINKED. The first border's right link names the second, which is marked deleted, and whose right link
-- this is.
pub record IsMarkedRight (b right : BorderView) (number : NodeNo) (next : Option RightLink) : Type 0 where
  pub named : b.right ≡ Some (record { low = right.low; node = number })
  pub marked : right.version.deleted ≡ true
  pub noted : right.right ≡ next
  pub above : IsLeftOf right.low right.live next

abbrev pub MayUnlink : ArenaView → ℕ → NodeNo → Option RightLink → Type 0
MayUnlink a number other next = IsSomeAnd (border_at a.nodes number) (λ b.
    IsSomeAnd (border_at a.nodes other.0) (λ right. IsMarkedRight b right other next))

-- the chart then: the border is on, in some layer; the other, of this low, was in that layer, no head or interior might
-- name it, and it goes now
pub record ChartsUnlinked (now number other low : ℕ) (chart next : Chart) : Type 0 where
  pub prefix : List ℕ
  pub stands : IsOnIn chart number prefix
  pub dropped : chart other ≡ Some (spot (at_level 0) prefix low (on false))
  pub charted : Changes chart next other (Some (spot (at_level 0) prefix low (gone now)))

-- the border is unlinked: the tree is an index at that next chart, with the same rows
pub record UnlinksAt (a after : ArenaView) (number other : ℕ) : Type 0 where
  pub unlinks : (right : BorderView) → border_at a.nodes other ≡ Some right →
      KeepsAlong a after (λ now twins chart next. ChartsUnlinked now number other right.low chart next)

-- A LAYER IS DROPPED. The entry at the place of a border is a link to this head; the head is marked deleted, and so is
-- its root, a border with nothing to its right.
pub record HasMarkedLayerAt (nodes : Nodes) (b : BorderView) (place : ℕ) : Type 0 where
  pub slice : ℕ
  pub head : NodeNo
  pub layer_head : HeadView
  pub layer_root : BorderView
  pub linked : slice_get b.live place ≡ Some (record { slice = slice; content = Link head })
  pub is_head : head_at nodes head.0 ≡ Some layer_head
  pub head_marked : layer_head.version.deleted ≡ true
  pub is_root : border_at nodes layer_head.root.0 ≡ Some layer_root
  pub root_marked : layer_root.version.deleted ≡ true
  pub right : layer_root.right ≡ None

-- the chart then: the border is on, in some layer; the head of the layer below this slice and its root go now, and the
-- head is no twin
pub record ChartsDropped (now number head root slice : ℕ) (twins : List Twin) (chart next : Chart) : Type 0 where
  pub prefix : List ℕ
  pub stands : IsOnIn chart number prefix
  pub no_twin : (other : ℕ) → AreTwins twins other head → ⊥
  pub head_goes : next head ≡ Some (spot top (slice ∷ prefix) 0 (gone now))
  pub root_goes : next root ≡ Some (spot (at_level 0) (slice ∷ prefix) 0 (gone now))
  pub others : (other : ℕ) → other ≢ head → other ≢ root → next other ≡ chart other

-- the layer is dropped: the tree is an index at that next chart, with the same rows
pub record DropsLayerAt (a after : ArenaView) (number place : ℕ) : Type 0 where
  pub drops : (b : BorderView) (slice : ℕ) (head : NodeNo) (layer_head : HeadView) → border_at a.nodes number ≡ Some b →
      slice_get b.live place ≡ Some (record { slice = slice; content = Link head }) →
      head_at a.nodes head.0 ≡ Some layer_head → KeepsAlong a after
      (λ now twins chart next. ChartsDropped now number head.0 layer_head.root.0 slice twins chart next)
