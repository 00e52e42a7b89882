-- The invariant of a border.
use Rattle.std.specs.Prelude.{◌≡◌, ℕ, ◌+◌, ◌^◌, ◌<◌, ◌≤◌, List, [], ◌∷◌, length, true, Option, Some, None, IsSome}
use Rattle.std.specs.List.{All, AllPairs}
use Rattle.mt_types.specs.declared.numbers.NodeNo.{NodeNo}
use Rattle.mt_word.specs.Slots.{Slots, IsArranged, with_first}
use Rattle.mt_word.specs.Version.{IsVersion, IsUnspent, is_flagged}
use Rattle.mt_word.specs.declared.permutation_word.TheConstants.{SLOTS}
use Rattle.mt_border.specs.Entry.{entry_rank, entry_suffix, IsEntry}
use Rattle.mt_border.specs.Border.{BorderView, entries_of, first_held}
use Rattle.mt_border.specs.Keys.{key_seen, IsKey}
use Rattle.mt_border.specs.Slots.{slot_at}
use Rattle.mt_border.specs.declared.entry.Content.TheVariants.{Link}
use Rattle.mt_border.specs.declared.unwritten.Unwritten.{Unwritten}
use Rattle.mt_border.specs.declared.unwritten.Unwritten.TheVariants.{Nothing, Value, Order, LinkAt, MarkAt}
use Rattle.mt_border.specs.declared.unwritten.SlotKey.{SlotKey}
use Rattle.mt_border.specs.Table.{picked, IsSlotTable}
use Rattle.mt_border.specs.declared.entry.Entry.{Entry}
use Rattle.mt_border.specs.declared.entry.RightLink.{RightLink}
use Rattle.mt_border.specs.declared.slot_table.Slot.{Slot}

-- each entry comes before those after it
pub record IsOrdered (live : List Entry) : Type 0 where
  pub pairs : AllPairs (λ entry later. entry_rank entry < entry_rank later) live

pub record AreEntries (entries : List Entry) : Type 0 where
  pub each : All IsEntry entries

pub record HoldEntries (slots : List Slot) : Type 0 where
  pub each : All (λ slot. IsEntry slot.entry) slots

-- each slice is at least this
pub record AreFrom (low : ℕ) (live : List Entry) : Type 0 where
  pub each : All (λ entry. low ≤ entry.slice) live

-- each slice is below this
pub record AreBelow (bound : ℕ) (live : List Entry) : Type 0 where
  pub each : All (λ entry. entry.slice < bound) live

-- what stands to the right is above the least slice and above each live entry
abbrev pub IsLeftOf : ℕ → List Entry → Option RightLink → Type 0
IsLeftOf low live None = Unit {0}
IsLeftOf low live (Some link) = (low < link.low) × AreBelow link.low live

-- each of these slots held a key
abbrev pub AllHeldKeys : List Slot → Type 0
AllHeldKeys [] = Unit {0}
AllHeldKeys (slot ∷ slots) = (slot.held_key ≡ true) × AllHeldKeys slots

-- what is live and what is unused is what the fifteen slots hold, in this order, and each live slot held a key
pub record AreInSlots (live : List Entry) (unused : List Slot) (slots : List Slot) (order : Slots) : Type 0 where
  pub table : IsSlotTable slots order
  pub live_is : live ≡ entries_of (picked slots order.live)
  pub unused_is : unused ≡ picked slots order.unused
  pub held : AllHeldKeys (picked slots order.live)

-- the key is in the first unused slot before its value: the border is locked, and has an unused slot; if that slot held
-- a key, the border is flagged
pub record AwaitsValue (b : BorderView) (key : SlotKey) : Type 0 where
  pub locked : b.version.locked ≡ true
  pub room : length b.live < SLOTS
  pub flagged : first_held b.unused ≡ true → b.version.inserting ≡ true
  pub whole : IsKey (key_seen key)

-- others still read this order, of which the border has only the first entries: it is locked, and marked as one that is
-- being split
pub record AwaitsCut (b : BorderView) (shown : Slots) : Type 0 where
  pub locked : b.version.locked ≡ true
  pub splitting : b.version.splitting ≡ true
  pub arranged : IsArranged shown
  pub cut : b.order ≡ with_first shown (length b.live)

-- the key of this slot is marked unstable: the border is locked, and the key is a longer row's
pub record AwaitsLink (b : BorderView) (number : ℕ) : Type 0 where
  pub locked : b.version.locked ≡ true
  pub long : IsSome (entry_suffix (slot_at b number).entry)

-- and its value is the link
pub record AwaitsMark (b : BorderView) (number : ℕ) (suffix : List ℕ) : Type 0 where
  pub locked : b.version.locked ≡ true
  pub head : NodeNo
  pub link : (slot_at b number).entry.content ≡ Link head

abbrev pub IsUnwritten : BorderView → Unwritten → Type 0
IsUnwritten b Nothing = Unit {0}
IsUnwritten b (Value key) = AwaitsValue b key
IsUnwritten b (Order shown) = AwaitsCut b shown
IsUnwritten b (LinkAt number) = AwaitsLink b number
IsUnwritten b (MarkAt number suffix) = AwaitsMark b number suffix

-- what holds of every border
pub record IsBorder (b : BorderView) : Type 0 where
  pub seen : AreInSlots b.live b.unused b.slots b.order
  pub slots : length b.live + length b.unused ≡ SLOTS
  pub low_fits : b.low < 2 ^ 64
  pub ordered : IsOrdered b.live
  pub entries : AreEntries b.live
  pub held_back : HoldEntries b.unused
  pub from_low : AreFrom b.low b.live
  pub left_of : IsLeftOf b.low b.live b.right
  pub deleted_empty : b.version.deleted ≡ true → b.live ≡ []
  pub border : b.version.border ≡ true
  pub flags : is_flagged b.version ≡ true → b.version.locked ≡ true
  pub unspent : IsUnspent b.version
  pub counters : IsVersion b.version
  pub pending : IsUnwritten b b.unwritten
