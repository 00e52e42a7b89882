-- The slot of a number, and whether it is live, through a change of a border.
use Rattle.std.proofs.Common.{◌≡◌, ◌≢◌, ℕ, ◌<◌, inl, inr, List, [], ◌∷◌, ◌++◌, length, take, drop, get_or, nat_eq, refl, sym, ap, ◌∙◌, arith, Bool, true, false, ◌||◌}
use Rattle.std.specs.List.{list_any}
use Rattle.std.proofs.lemmas.Bool.Decides.{eqb_tells}
use Rattle.std.proofs.lemmas.List.{take-append-drop, get_or-set_same, get_or-set_other}
use Rattle.std.proofs.lemmas.List.Elements.{Contains-get_or}
use Rattle.std.proofs.lemmas.List.Folds.{list_any-append}
use Rattle.mt_border.specs.Table.{blank_slot, picked, number_at, next_number, slot_changed, shown}
use Rattle.mt_border.specs.Border.{BorderView, first_held, with_shown}
use Rattle.mt_border.specs.Order.{IsBorder}
use Rattle.mt_border.specs.Slots.{slot_at, is_live, held_at}
use Rattle.mt_border.proofs.TableLemmas.{live_below}
use Rattle.mt_border.proofs.SlotLemmas.{live_count, unused_there}
use Rattle.mt_border.proofs.FieldLemmas.{live_from_there}
use Rattle.mt_border.specs.declared.slot_table.Slot.{Slot}

-- ---- a slot that is changed
pub changed_there : (slots : List Slot) (n : ℕ) (f : Slot → Slot) → n < length slots → get_or (slot_changed n f slots) n blank_slot ≡ f (get_or slots n blank_slot)
changed_there slots n f within = get_or-set_same slots n (f (get_or slots n blank_slot)) blank_slot within

pub changed_elsewhere : (slots : List Slot) (n k : ℕ) (f : Slot → Slot) → k ≢ n → get_or (slot_changed n f slots) k blank_slot ≡ get_or slots k blank_slot
changed_elsewhere slots n k f other = get_or-set_other slots n k (f (get_or slots n blank_slot)) blank_slot other

any_parts : (p : ℕ → Bool) (i : ℕ) (xs : List ℕ) → (list_any p (take i xs) || list_any p (drop i xs)) ≡ list_any p xs
any_parts p i xs = sym (list_any-append p (take i xs) (drop i xs)) ∙ ap (λ (l : List ℕ). list_any p l) (take-append-drop i xs)

-- a number is none but itself
pub not_equal : (k n : ℕ) → k ≢ n → nat_eq k n ≡ false
not_equal k n other = elim (eqb_tells k n) [
  | inl p ↦ absurd (other p.1)
  | inr p ↦ p.0
]

none_first : (k : ℕ) (u : List ℕ) → k ≢ get_or u 0 0 → list_any (nat_eq k) (take 1 u) ≡ false
none_first k [] other = refl
none_first k (n ∷ u) other = rw (not_equal k n other) refl

-- ---- the first unused slot, and the live ones
module _ (b : BorderView) (h : IsBorder b) where
  pub number_within : (i : ℕ) → i < length b.live → number_at i b.order < length b.slots
  number_within i within =
      let below = live_below b.order i h.seen.table.arranged (omega (arith, live_count b.live b.unused b.slots b.order h.seen)) in
      omega (arith, below, h.seen.table.fifteen)

  -- whether it held a key
  pub first_held_is_next : length b.live < 15 → first_held b.unused ≡ held_at b (next_number b.order)
  first_held_is_next room = ap first_held h.seen.unused_is ∙ first b.order.unused (unused_there b.live b.unused b.slots b.order h.seen room)
    where
      first : (numbers : List ℕ) → 0 < length numbers → first_held (picked b.slots numbers) ≡ (get_or b.slots (get_or numbers 0 0) blank_slot).held_key
      first [] some = absurd (omega (arith, some))
      first (n ∷ numbers) some = refl

  pub number_live : (i : ℕ) → i < length b.live → is_live b (number_at i b.order) ≡ true
  number_live i within = live_from_there b (number_at i b.order) (Contains-get_or b.order.live i 0 (omega (arith, live_count b.live b.unused b.slots b.order h.seen)))

  -- ---- a show changes the first unused slot alone, and makes it live
  pub shown_other : (i version k : ℕ) → k ≢ next_number b.order → slot_at (with_shown b i version) k ≡ slot_at b k
  shown_other i version k other = changed_elsewhere b.slots (next_number b.order) k (shown version) other

  pub shown_lives_other : (i version k : ℕ) → k ≢ next_number b.order → is_live (with_shown b i version) k ≡ is_live b k
  shown_lives_other i version k other =
      let p : ℕ → Bool = nat_eq k in
      let l = b.order.live in
      let u = b.order.unused in
      list_any-append p (take i l) (take 1 u ++ drop i l) ∙ rw (list_any-append p (take 1 u) (drop i l), none_first k u other) (any_parts p i l)
