-- What a border shows of the slot of a live number: its entry is among what is live, and it held a key.
use Rattle.std.proofs.Common.{◌≡◌, ℕ, zero, suc, ◌<◌, List, [], ◌∷◌, length, get_or, sym, ap, ◌∙◌, arith, subst, true}
use Rattle.std.specs.List.{Contains}
use Rattle.std.proofs.lemmas.Bool.Decides.{Decides-eqb}
use Rattle.std.proofs.lemmas.Cmp.{nat_eq_equiv}
use Rattle.std.proofs.lemmas.List.{get_or-map, get_or_default, length-map}
use Rattle.std.proofs.lemmas.List.Elements.{Contains-get_or}
use Rattle.std.proofs.lemmas.Map.Views.{list_any-from_Contains, Contains-from_any}
use Rattle.mt_border.specs.Table.{blank_slot, picked}
use Rattle.mt_border.specs.Border.{BorderView, entries_of}
use Rattle.mt_border.specs.Order.{IsBorder, AllHeldKeys, AreInSlots}
use Rattle.mt_border.specs.Slots.{slot_at, is_live, held_at}
use Rattle.mt_border.proofs.TableLemmas.{length-picked, picked_at}
use Rattle.mt_border.specs.declared.entry.Entry.{Entry}
use Rattle.mt_border.specs.declared.slot_table.Slot.{Slot}

-- a number is live where the order has it among the live ones
pub live_there : (b : BorderView) (k : ℕ) → is_live b k ≡ true → Contains b.order.live k
live_there b k live = Contains-from_any (λ x y. (Decides-eqb x y).0) k b.order.live live

pub live_from_there : (b : BorderView) (k : ℕ) → Contains b.order.live k → is_live b k ≡ true
live_from_there b k there = list_any-from_Contains nat_eq_equiv k b.order.live there

-- the place of a live number
read_place : (numbers : List ℕ) (k : ℕ) (there : Contains numbers k) → get_or numbers there.0 0 ≡ k
read_place numbers k there = get_or_default numbers there.0 0 k there.1 ∙ there.2

-- A LIVE SLOT'S ENTRY IS AMONG THE LIVE ENTRIES
pub live_entry_in : (b : BorderView) (k : ℕ) → AreInSlots b.live b.unused b.slots b.order → is_live b k ≡ true → Contains b.live (slot_at b k).entry
live_entry_in b k seen live =
    let there = live_there b k live in
    let i = there.0 in
    let held : List Slot = picked b.slots b.order.live in
    let inside : i < length held = omega (arith, there.1, length-picked b.slots b.order b.order.live) in
    let within : i < length (entries_of held) = omega (arith, inside, length-map held (λ (slot : Slot). slot.entry)) in
    let read : get_or (entries_of held) i blank_slot.entry ≡ (slot_at b k).entry =
    get_or-map (λ (slot : Slot). slot.entry) held i blank_slot blank_slot.entry inside ∙ ap (λ (slot : Slot). slot.entry) (picked_at b.slots b.order.live i there.1 ∙ ap (λ (n : ℕ). get_or b.slots n blank_slot) (read_place b.order.live k there)) in
    subst (λ (live : List Entry). Contains live (slot_at b k).entry) (sym seen.live_is) (subst (λ (entry : Entry). Contains (entries_of held) entry) read (Contains-get_or (entries_of held) i blank_slot.entry within))

-- a live slot held a key
all_held_at : (slots : List Slot) (i : ℕ) → AllHeldKeys slots → i < length slots → (get_or slots i blank_slot).held_key ≡ true
all_held_at [] i h within = absurd (omega (arith, within))
all_held_at (slot ∷ slots) zero h within = h.0
all_held_at (slot ∷ slots) (suc i) h within = all_held_at slots i h.1 (omega (arith, within))

pub live_slot_held : (b : BorderView) (k : ℕ) → IsBorder b → is_live b k ≡ true → held_at b k ≡ true
live_slot_held b k h live =
    let there = live_there b k live in
    let inside : there.0 < length (picked b.slots b.order.live) = omega (arith, there.1, length-picked b.slots b.order b.order.live) in
    let read : get_or (picked b.slots b.order.live) there.0 blank_slot ≡ slot_at b k = picked_at b.slots b.order.live there.0 there.1 ∙ ap (λ (n : ℕ). get_or b.slots n blank_slot) (read_place b.order.live k there) in
    subst (λ (slot : Slot). slot.held_key ≡ true) read (all_held_at (picked b.slots b.order.live) there.0 h.seen.held inside)
