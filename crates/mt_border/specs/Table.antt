-- What a contract sees of a `SlotTable`, and what a call makes of its slots and their order.
use Rattle.std.specs.Prelude.{◌≡◌, ℕ, List, ◌++◌, length, map, take, drop, slice_index, slice_index_or, slice_set, false, true, [], ◌∷◌, Option, None}
use Rattle.mt_word.specs.Slots.{Slots, IsArranged, all_slots}
use Rattle.mt_word.specs.declared.permutation_word.TheConstants.{SLOTS}
use Rattle.mt_types.specs.declared.row.Row.{Row}
use Rattle.mt_border.specs.Entry.{entry_row, entry_suffix, at_version}
use Rattle.mt_border.specs.declared.entry.Content.TheVariants.{Link}
use Rattle.mt_border.specs.declared.entry.Entry.{Entry}
use Rattle.mt_border.specs.declared.slot_table.Slot.{Slot}

-- the slots by their numbers, and the order: the numbers of the live slots and those of the unused ones
pub record TableView : Type 0 where
  pub slots : List Slot
  pub order : Slots

-- what a slot holds before it is filled
abbrev pub blank_slot : Slot
blank_slot = record {
  entry = record { slice = 0; content = Link (record { 0 = 0 }) };
  held_key = false;
}

-- what the slots of these numbers hold
abbrev pub picked : List Slot → List ℕ → List Slot
picked slots numbers = map (λ number. slice_index_or slots number blank_slot) numbers

-- what the live slots hold, in their order
abbrev pub live_slots : TableView → List Slot
live_slots t = picked t.slots t.order.live

-- what the unused slots hold, in the order in which they are taken
abbrev pub unused_slots : TableView → List Slot
unused_slots t = picked t.slots t.order.unused

-- there are fifteen slots, and each is at one place
pub record IsSlotTable (slots : List Slot) (s : Slots) : Type 0 where
  pub fifteen : length slots ≡ SLOTS
  pub arranged : IsArranged s

-- no slot is live, and they are taken in the order of their numbers
abbrev pub none_live : Slots
none_live = record { live = []; unused = all_slots }

-- the number of the live slot at a place
abbrev pub number_at : ℕ → Slots → ℕ
number_at place order = slice_index order.live place

-- the number of the first unused slot
abbrev pub next_number : Slots → ℕ
next_number order = slice_index order.unused 0

-- the slots, of which the one of this number is changed
abbrev pub slot_changed : ℕ → (Slot → Slot) → List Slot → List Slot
slot_changed number change slots = slice_set slots number (change (slice_index_or slots number blank_slot))

-- the slot of an entry that was live
abbrev pub left_slot : Entry → Slot
left_slot entry = record { entry = entry; held_key = true }

-- the slots of these entries, which were live
abbrev pub left_slots : List Entry → List Slot
left_slots entries = map left_slot entries

-- the slot, whose entry is changed
abbrev pub with_entry : (Entry → Entry) → Slot → Slot
with_entry change slot = record slot { entry = change slot.entry }

-- the slot once it is filled with this entry, which is not live yet
abbrev pub filled : Entry → Slot → Slot
filled entry slot = record slot { entry = entry; held_key = false }

-- the slot, marked as one that holds a key that is live
abbrev pub marked : Slot → Slot
marked slot = record slot { held_key = true }

-- the slot once it is shown, its row made by the commit of this number
abbrev pub shown : ℕ → Slot → Slot
shown version slot = left_slot (at_version version slot.entry)

-- the slots once those of these numbers, one after the other, hold these entries, which are live
abbrev pub with_all_filled : List ℕ → List Entry → List Slot → List Slot
with_all_filled numbers [] slots = slots
with_all_filled [] (entry ∷ entries) slots = slots
with_all_filled (number ∷ numbers) (entry ∷ entries) slots =
    with_all_filled numbers entries (slice_set slots number (left_slot entry))

-- the order once the first n unused slots are live after the others
abbrev pub with_more_live : Slots → ℕ → Slots
with_more_live order count =
    record { live = order.live ++ take count order.unused; unused = drop count order.unused }

-- the elements, of which the first is changed
abbrev pub first_changed : {X : Type 0} → (X → X) → List X → List X
first_changed change [] = []
first_changed change (x ∷ xs) = change x ∷ xs

-- the elements, of which the one at place i is changed
abbrev pub changed_at : {X : Type 0} → ℕ → (X → X) → List X → List X
changed_at i change xs = take i xs ++ first_changed change (drop i xs)

-- the row that the first of these slots holds, if it holds one
abbrev pub row_of_first : List Slot → Option Row
row_of_first [] = None
row_of_first (slot ∷ slots) = entry_row slot.entry

-- what follows the slice of the key of the first of these slots, if it is a longer row's
abbrev pub suffix_of_first : List Slot → Option (List ℕ)
suffix_of_first [] = None
suffix_of_first (slot ∷ slots) = entry_suffix slot.entry
