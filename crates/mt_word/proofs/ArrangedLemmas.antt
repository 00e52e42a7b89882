-- What callers know of an arranged permutation: no slot is at two places, and its word names it.
use Rattle.std.proofs.Common.{◌≡◌, ◌≢◌, ℕ, ◌+◌, ◌*◌, ◌/◌, ◌%◌, ◌<◌, length, refl, ap, arith, eqb, sym, ◌∙◌}
use Rattle.std.specs.List.{AllPairs}
use Rattle.std.proofs.lemmas.Bool.Decides.{Decides-eqb, same_from_decides}
use Rattle.std.proofs.lemmas.Map.Keys.{IsDistinct-IsPermutation}
use Rattle.std.proofs.lemmas.Map.Made.{AllPairs-from_IsDistinct, IsDistinct-from_AllPairs}
use Rattle.mt_word.proofs.SeenLemmas.{all_slots_at}
use Rattle.mt_word.specs.Fields.{word_of_fields}
use Rattle.mt_word.specs.Slots.{Slots, IsArranged, places, all_slots, slots_of_word, word_of_slots}
use Rattle.mt_word.proofs.FieldsLemmas.{fields-word_of_fields}
use Rattle.mt_word.proofs.PlacesLemmas.{fields_of_slots, fifteen_slots, fifteen_together, slots_at-append}

all_slots_distinct : AllPairs (λ x y. x ≢ y) all_slots
all_slots_distinct i j d before within e =
    omega (arith, all_slots_at i d (omega arith), all_slots_at j d within, e)

eqb_turned : (x y : ℕ) → eqb x y ≡ eqb y x
eqb_turned x y =
    let d = Decides-eqb y x in
    same_from_decides (eqb x y) (eqb y x) (Decides-eqb x y) (λ e. sym (d.0 e), λ e. d.1 (sym e))

pub places_distinct : (s : Slots) → IsArranged s → AllPairs (λ x y. x ≢ y) (places s)
places_distinct s h =
    AllPairs-from_IsDistinct Decides-eqb (places s) (IsDistinct-IsPermutation eqb eqb_turned all_slots (places s) h.each_once (IsDistinct-from_AllPairs Decides-eqb all_slots all_slots_distinct))

-- the word of these slots names them
pub slots_of_word-word_of_slots : (s : Slots) → IsArranged s → slots_of_word (word_of_slots s) ≡ s
slots_of_word-word_of_slots s h =
    let n = length s.live in
    let fifteen : length (places s) ≡ 15 = fifteen_slots (places s) h.each_once in
    let few : n < 16 = omega (arith, fifteen_together s h) in
    let count : (word_of_fields (places s) * 16 + n) % 16 ≡ n = omega arith in
    let upper : (word_of_fields (places s) * 16 + n) / 16 ≡ word_of_fields (places s) = omega arith in
    let same = rw fifteen at (fields-word_of_fields (places s) (fields_of_slots (places s) h.each_once)) in
    rw (count, upper, same) (slots_at-append s.live s.unused n refl)

-- two permutations that are `==` are the same
pub same_slots : (a b : Slots) → IsArranged a → IsArranged b → word_of_slots a ≡ word_of_slots b → a ≡ b
same_slots a b h k e =
    sym (slots_of_word-word_of_slots a h) ∙ (ap slots_of_word e ∙ slots_of_word-word_of_slots b k)
