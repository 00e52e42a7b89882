-- What a border shows of the slot of a number.
use Rattle.std.specs.Prelude.{ℕ, Bool, nat_eq, if◌then◌else◌, slice_index_or}
use Rattle.std.specs.List.{list_any}
use Rattle.mt_word.specs.Slots.{Slots}
use Rattle.mt_border.specs.Border.{BorderView}
use Rattle.mt_border.specs.Table.{blank_slot, next_number}
use Rattle.mt_border.specs.Keys.{KeyView, entry_key, key_seen, unstable, unstable_with}
use Rattle.mt_border.specs.declared.unwritten.Unwritten.{Unwritten}
use Rattle.mt_border.specs.declared.unwritten.Unwritten.TheVariants.{Value, Order, LinkAt, MarkAt}
use Rattle.mt_border.specs.declared.slot_table.Slot.{Slot}

-- the slot of this number
abbrev pub slot_at : BorderView → ℕ → Slot
slot_at b number = slice_index_or b.slots number blank_slot

-- whether the slot of this number is live
abbrev pub is_live : BorderView → ℕ → Bool
is_live b number = list_any (nat_eq number) b.order.live

-- whether the slot of this number holds a key that was live since it was last filled
abbrev pub held_at : BorderView → ℕ → Bool
held_at b number = (slot_at b number).held_key

-- the key that is read in the slot of a number, if this is unwritten, the first unused slot has this number, and what the
-- slot holds has this key
abbrev pub key_in : Unwritten → ℕ → ℕ → KeyView → KeyView
key_in (Value key) next number own = if nat_eq number next then key_seen key else own
key_in (LinkAt slot) next number own = if nat_eq number slot then unstable own else own
key_in (MarkAt slot suffix) next number own = if nat_eq number slot then unstable_with own.slice suffix else own
key_in _ next number own = own

-- THE KEY THAT IS READ in the slot of this number
abbrev pub key_at : BorderView → ℕ → KeyView
key_at b number = key_in b.unwritten (next_number b.order) number (entry_key (slot_at b number).entry)

-- the order that is read, if this is unwritten
abbrev pub order_in : Unwritten → Slots → Slots
order_in (Order shown) own = shown
order_in _ own = own

-- THE ORDER THAT IS READ
abbrev pub order_shown : BorderView → Slots
order_shown b = order_in b.unwritten b.order
