-- What a contract sees of a `Border`, and what each call makes of it.
use Rattle.std.specs.Prelude.{ℕ, ◌==◌, nat_le, Bool, true, false, ◌&&◌, if◌then◌else◌, List, [], ◌∷◌, ◌++◌, length, map, take, drop, replicate}
use Rattle.std.specs.Prelude.{Option, Some, None, unwrap_or}
use Rattle.std.specs.List.{remove}
use Rattle.mt_types.specs.declared.row.Row.{Row}
use Rattle.mt_types.specs.declared.numbers.NodeNo.{NodeNo}
use Rattle.mt_word.specs.Version.{VersionView, unlocked}
use Rattle.mt_word.specs.Slots.{Slots, with_first_unused_at, without_place, with_first}
use Rattle.mt_word.specs.declared.permutation_word.TheConstants.{SLOTS}
use Rattle.mt_word.specs.declared.version_word.TheConstants.{MAX_INSERTS}
use Rattle.mt_border.specs.Entry.{entry_row, entry_suffix, at_version, no_row, with_row, with_link}
use Rattle.mt_border.specs.Table.{TableView, blank_slot, live_slots, unused_slots, none_live, number_at, next_number, slot_changed, left_slots, with_entry, filled, shown, with_all_filled, with_more_live, first_changed, changed_at}
use Rattle.mt_border.specs.declared.entry.Entry.{Entry}
use Rattle.mt_border.specs.declared.entry.RightLink.{RightLink}
use Rattle.mt_border.specs.declared.unwritten.Unwritten.{Unwritten}
use Rattle.mt_border.specs.declared.unwritten.Unwritten.TheVariants.{Nothing, Value, Order, LinkAt, MarkAt}
use Rattle.mt_border.specs.declared.unwritten.SlotKey.{SlotKey}
use Rattle.mt_border.specs.declared.slot_table.Slot.{Slot}

-- a border of a layer: the least slice that may stand in it, the border to the right, the version,
-- the live entries in key order, and what the unused slots hold in the order in which they are taken;
-- and the fields that both are read of: the slots by their numbers, and the order; and what of the slots isn't written
-- yet
pub record BorderView : Type 0 where
  pub layer : ℕ
  pub low : ℕ
  pub right : Option RightLink
  pub version : VersionView
  pub live : List Entry
  pub unused : List Slot
  pub slots : List Slot
  pub order : Slots
  pub unwritten : Unwritten

-- what slots hold, without whether they held a key
abbrev pub entries_of : List Slot → List Entry
entries_of slots = map (λ slot. slot.entry) slots

-- what is seen of a border with these slots
abbrev pub border_view : ℕ → ℕ → Option RightLink → VersionView → TableView → Unwritten → BorderView
border_view layer low right version table unwritten = record {
  layer = layer;
  low = low;
  right = right;
  version = version;
  live = entries_of (live_slots table);
  unused = unused_slots table;
  slots = table.slots;
  order = table.order;
  unwritten = unwritten;
}

-- the version of a new border, locked or not
abbrev pub new_version : Bool → VersionView
new_version locked = record {
  locked = locked;
  inserting = false;
  splitting = false;
  deleted = false;
  border = true;
  vinsert = 0;
  vsplit = 0;
}

-- a border with no live entry, whose slots never held a key
abbrev pub new_border : ℕ → ℕ → Bool → BorderView
new_border layer low locked = record {
  layer = layer;
  low = low;
  right = None;
  version = new_version locked;
  live = [];
  unused = replicate SLOTS blank_slot;
  slots = replicate SLOTS blank_slot;
  order = none_live;
  unwritten = Nothing;
}

-- whether the first of these slots held a key
abbrev pub first_held : List Slot → Bool
first_held [] = false
first_held (slot ∷ slots) = slot.held_key

-- the row that the first of these slots holds, if it holds one
abbrev pub next_row : List Slot → Option Row
next_row [] = None
next_row (slot ∷ slots) = entry_row slot.entry

-- the row of the entry at a place, if there is one
abbrev pub first_row : List Entry → Option Row
first_row [] = None
first_row (entry ∷ entries) = entry_row entry

abbrev pub row_at : ℕ → List Entry → Option Row
row_at place live = first_row (drop place live)

-- the suffix of the entry at a place, if there is one
abbrev pub first_suffix : List Entry → Option (List ℕ)
first_suffix [] = None
first_suffix (entry ∷ entries) = entry_suffix entry

abbrev pub suffix_at : ℕ → List Entry → Option (List ℕ)
suffix_at place live = first_suffix (drop place live)

-- an insertion would set the flag of a counter that is at its greatest value
abbrev pub insert_is_spent : BorderView → Bool
insert_is_spent b = first_held b.unused && (b.version.vinsert == MAX_INSERTS)

-- the version, before a key is inserted into a slot that held one before, or did not
abbrev pub inserting_version : Bool → VersionView → VersionView
inserting_version true v = record v { inserting = true }
inserting_version false v = v

-- the border once it is marked for the key that is to be inserted into the first unused slot
abbrev pub with_inserting : BorderView → BorderView
with_inserting b = record b { version = inserting_version (first_held b.unused) b.version }

-- the border once that slot has this key, and its old value
abbrev pub with_key : BorderView → SlotKey → BorderView
with_key b key = record b { unwritten = Value key }

-- the border once the first unused slot holds this entry
abbrev pub with_filled : BorderView → Entry → BorderView
with_filled b entry = record b {
  unused = first_changed (filled entry) b.unused;
  slots = slot_changed (next_number b.order) (filled entry) b.slots;
  unwritten = Nothing;
}

-- the border once the row is dropped that the first unused slot held
abbrev pub with_forgotten : BorderView → BorderView
with_forgotten b = record b {
  unused = first_changed (with_entry (with_row no_row)) b.unused;
  slots = slot_changed (next_number b.order) (with_entry (with_row no_row)) b.slots;
}

-- the border once what the first unused slot holds is live at a place, its row made by the commit of this number
abbrev pub with_shown : BorderView → ℕ → ℕ → BorderView
with_shown b place version = record b {
  live = take place b.live ++ (map (λ slot. at_version version slot.entry) (take 1 b.unused) ++ drop place b.live);
  unused = drop 1 b.unused;
  slots = slot_changed (next_number b.order) (shown version) b.slots;
  order = with_first_unused_at b.order place;
}

-- the border once the slot of the entry at a place is the first unused one
abbrev pub with_hidden : BorderView → ℕ → BorderView
with_hidden b place = record b {
  live = remove b.live place;
  unused = left_slots (take 1 (drop place b.live)) ++ b.unused;
  order = without_place b.order place;
}

-- the border once the entry at a place has another row
abbrev pub with_value : BorderView → ℕ → Row → BorderView
with_value b place row = record b {
  live = changed_at place (with_row row) b.live;
  slots = slot_changed (number_at place b.order) (with_entry (with_row row)) b.slots;
}

-- the border once the key of the entry at a place is marked unstable, and the link is still to be written there
abbrev pub with_unstable : BorderView → ℕ → BorderView
with_unstable b place = record b { unwritten = LinkAt (number_at place b.order) }

-- the border once the entry at a place is a link, and its key is still to be marked as a layer's
abbrev pub with_link_at : BorderView → ℕ → NodeNo → BorderView
with_link_at b place head = record b {
  live = changed_at place (with_link head) b.live;
  slots = slot_changed (number_at place b.order) (with_entry (with_link head)) b.slots;
  unwritten = MarkAt (number_at place b.order) (unwrap_or (suffix_at place b.live) []);
}

-- the border once what was unwritten of its order, or of a key's mark, is written
abbrev pub with_written : BorderView → BorderView
with_written b = record b { unwritten = Nothing }

-- the border, which had no live entry, once these are live and this is to its right
abbrev pub with_entries : BorderView → List Entry → Option RightLink → BorderView
with_entries b entries right = record b {
  live = entries;
  unused = drop (length entries) b.unused;
  slots = with_all_filled b.order.unused entries b.slots;
  order = with_more_live b.order (length entries);
  right = right;
}

-- the border once it is marked as one that is being split
abbrev pub with_splitting : BorderView → BorderView
with_splitting b = record b { version = record b.version { splitting = true } }

-- the border once only the first n entries are its own, and the others are to its right; the order that others read is
-- still to be cut
abbrev pub with_half_linked : BorderView → ℕ → RightLink → BorderView
with_half_linked b keep right = record b {
  live = take keep b.live;
  unused = left_slots (drop keep b.live) ++ b.unused;
  order = with_first b.order keep;
  right = Some right;
  unwritten = Order b.order;
}

abbrev pub with_right : BorderView → Option RightLink → BorderView
with_right b right = record b { right = right }

abbrev pub with_locked : BorderView → BorderView
with_locked b = record b { version = record b.version { locked = true } }

-- the border, unlocked: its flags are cleared, and the counter of each that was set is raised
abbrev pub with_unlocked : BorderView → BorderView
with_unlocked b = record b { version = unlocked b.version }

abbrev pub with_deleted : BorderView → BorderView
with_deleted b = record b { version = record b.version { deleted = true } }

-- the border to the right, if a slice is there or beyond
abbrev pub right_for : Option RightLink → ℕ → Option NodeNo
right_for None slice = None
right_for (Some link) slice = if nat_le link.low slice then Some link.node else None
