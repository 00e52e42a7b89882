-- A set of slots kept as bits: a list of fifteen that has each slot names each once.
use Rattle.std.proofs.Common.{◌≡◌, inl, inr, ℕ, zero, suc, ◌+◌, ◌*◌, ◌/◌, ◌%◌, ◌^◌, ◌<◌, ◌≤◌, length-append, List, [], ◌∷◌, ◌++◌, length, take, get_or, Bool, true, ◌&&◌, eqb, refl, ap, sym, ◌∙◌, arith, bit_or, ◌↔◌, add-one}
use borrow.Author.Tests.{eqb-true}
use Rattle.std.specs.Int.{bit_at, w16}
use Rattle.std.specs.List.{Contains, remove}
use Rattle.std.specs.List.Sorted.{IsPermutation}
use Rattle.std.proofs.lemmas.Bool.{cases_lt}
use Rattle.std.proofs.lemmas.Bool.Decides.{eqb_tells}
use Rattle.std.proofs.lemmas.List.{take_more, get_or-take, length-take-le, take_all, nil_from_length}
use Rattle.std.proofs.lemmas.List.Elements.{Contains-append_cases, Contains-append_left, Contains-append_right}
use Rattle.std.proofs.lemmas.List.Sorted.{IsPermutation-more, IsPermutation-refl, IsPermutation-sym, Contains-permutation, length_permutation}
use Rattle.std.proofs.lemmas.Nat.Bits.{bit_at_set_same, bit_at_set_other, bit_at-lt, bit_at_ones, bit_at_ones_above, same_from_bits_below}
use Rattle.mt_word.proofs.PlacesLemmas.{left_true, right_true, slots_below}
use Rattle.mt_word.specs.Fields.{fields}
use Rattle.mt_word.specs.Round.{length-fields}
use Rattle.mt_word.specs.Slots.{all_slots, NamesEachSlot}

-- the list counts up from n
abbrev counts_from : ℕ → List ℕ → Bool
counts_from n [] = true
counts_from n (x ∷ xs) = eqb x n && counts_from (suc n) xs

at_count : (n : ℕ) (xs : List ℕ) → counts_from n xs ≡ true → (k d : ℕ) → k < length xs → get_or xs k d ≡ n + k
at_count n [] h k d l = absurd (omega arith)
at_count n (x ∷ xs) h zero d l = omega (arith, eqb-true x n (left_true _ _ h))
at_count n (x ∷ xs) h (suc k) d l = omega (arith, at_count (suc n) xs (right_true _ _ h) k d (omega arith))

pub all_slots_at : (k d : ℕ) → k < 15 → get_or all_slots k d ≡ k
all_slots_at k d h = omega (arith, at_count 0 all_slots refl k d h)

-- the bits of this number are the slots in the list
pub record IsSeen (seen : ℕ) (slots : List ℕ) : Type 0 where
  pub seen_there : (slot : ℕ) → bit_at seen slot ≡ 1 → Contains slots slot
  pub there_seen : (slot : ℕ) → Contains slots slot → bit_at seen slot ≡ 1

-- a list of one has that one
only_one : (x y : ℕ) → Contains (x ∷ []) y → y ≡ x
only_one x y (zero, h, e) = sym e
only_one x y (suc k, h, e) = absurd (omega arith)

still_seen : (seen x slot : ℕ) → x < 16 → bit_at seen slot ≡ 1 → bit_at (bit_or seen (1 * 2 ^ x % 2 ^ 16)) slot ≡ 1
still_seen seen x slot fits b =
    elim (eqb_tells slot x) [
      | inl p ↦ rw p.1 (bit_at_set_same w16 seen x fits)
      | inr p ↦ bit_at_set_other w16 seen x fits slot p.1 ∙ b
    ]

seen_after : (seen : ℕ) (slots : List ℕ) (x slot : ℕ) → x < 16 → IsSeen seen slots → bit_at (bit_or seen (1 * 2 ^ x % 2 ^ 16)) slot ≡ 1 → Contains (slots ++ x ∷ []) slot
seen_after seen slots x slot fits h b =
    elim (eqb_tells slot x) [
      | inl p ↦ Contains-append_right slots (x ∷ []) slot (0, omega arith, sym p.1)
      | inr p ↦ Contains-append_left slots (x ∷ []) slot (h.seen_there slot (sym (bit_at_set_other w16 seen x fits slot p.1) ∙ b))
    ]

pub seen_more : (seen : ℕ) (fs : List ℕ) (k x : ℕ) → k < length fs → x ≡ get_or fs k 0 → x < 16 → IsSeen seen (take k fs) → IsSeen (bit_or seen (1 * 2 ^ x % 2 ^ 16)) (take (k + 1) fs)
seen_more seen fs k x within read fits h =
    let next : take (k + 1) fs ≡ take k fs ++ x ∷ [] = take_more fs k 0 within ∙ ap (λ y. take k fs ++ y ∷ []) (sym read) in
    rw next (record {
      seen_there = λ slot b. seen_after seen (take k fs) x slot fits h b;
      there_seen = λ slot w. elim (Contains-append_cases (take k fs) (x ∷ []) slot w) [
        | inl old ↦ still_seen seen x slot fits (h.there_seen slot old)
        | inr new ↦ (let same : slot ≡ x = only_one x slot new in rw same (bit_at_set_same w16 seen x fits))
      ];
    })

-- a slot that is in a list of all lower ones and others is among the others
not_below : (k : ℕ) (left : List ℕ) → k < 15 → Contains (take k all_slots ++ left) k → Contains left k
not_below k left h there =
    elim (Contains-append_cases (take k all_slots) left k there) [
      | inl w ↦ (let short = length-take-le k all_slots (omega arith) in
          let below : w.0 < k = omega (arith, short, w.1) in
          let same : w.0 ≡ k = sym (all_slots_at w.0 k (omega arith)) ∙ (sym (get_or-take k all_slots w.0 k below) ∙ w.2) in
          absurd (omega arith))
      | inr w ↦ w
    ]

taken_more : (fs left : List ℕ) (k : ℕ) (found : Contains left k) → k < 15 → IsPermutation fs (take k all_slots ++ left) → IsPermutation fs (take (k + 1) all_slots ++ remove left found.0)
taken_more fs left k found h p =
    let step = IsPermutation-more fs (take k all_slots) left found.0 k found.1 (sym found.2) p in
    let next : take (k + 1) all_slots ≡ take k all_slots ++ k ∷ [] = take_more all_slots k 0 h ∙ ap (λ x. take k all_slots ++ x ∷ []) (all_slots_at k 0 h) in
    rw next step

-- the slots below k can be taken out of a list that has each
taken_out : (fs : List ℕ) → ((slot : ℕ) → slot < 15 → Contains fs slot) → (k : ℕ) → k ≤ 15 → (left : List ℕ) × IsPermutation fs (take k all_slots ++ left)
taken_out fs each zero h = (fs, IsPermutation-refl fs)
taken_out fs each (suc k) h =
    let out = taken_out fs each k (omega arith) in
    let there = Contains-permutation _ _ k out.1 (each k (omega arith)) in
    let found = not_below k out.0 (omega arith) there in
    (remove out.0 found.0, rw add-one at (taken_more fs out.0 k found (omega arith) out.1))

-- fifteen slots that have each are each once
pub each_once_from_each : (fs : List ℕ) → length fs ≡ 15 → ((slot : ℕ) → slot < 15 → Contains fs slot) → IsPermutation all_slots fs
each_once_from_each fs e each =
    let out = taken_out fs each 15 (omega arith) in
    let long : length (all_slots ++ out.0) ≡ length fs = length_permutation _ _ out.1 in
    let empty : out.0 ≡ [] = nil_from_length out.0 (omega (arith, long, length-append all_slots out.0)) in
    IsPermutation-sym fs all_slots (rw empty at out.1)

pub every_slot_seen : (seen : ℕ) (fs : List ℕ) → length fs ≡ 15 → seen ≡ 32767 → IsSeen seen fs → IsPermutation all_slots fs
every_slot_seen seen fs e all h =
    each_once_from_each fs e (λ slot l. h.seen_there slot (rw all (bit_at_ones 15 slot l)))

same_bit : (seen : ℕ) (fs : List ℕ) → IsSeen seen fs → IsPermutation all_slots fs → (i : ℕ) → i < 16 → bit_at seen i ≡ bit_at 32767 i
same_bit seen fs h p i l =
    elim (cases_lt i 15) [
      | inl low ↦ h.there_seen i (Contains-permutation all_slots fs i p (i, low, all_slots_at i i low)) ∙ sym (bit_at_ones 15 i low)
      | inr high ↦ (let clear : bit_at 32767 i ≡ 0 = bit_at_ones_above 15 i high in
          elim (eqb_tells (bit_at seen i) 1) [
            | inl b ↦ (let w = h.seen_there i b.1 in
                absurd (omega (arith, slots_below fs p w.0 i w.1, w.2)))
            | inr b ↦ omega (arith, bit_at-lt seen i, clear, b.1)
          ])
    ]

pub seen_of_each : (seen : ℕ) (fs : List ℕ) → seen < 2 ^ 16 → IsSeen seen fs → IsPermutation all_slots fs → seen ≡ 32767
seen_of_each seen fs fits h p = same_from_bits_below 16 seen 32767 fits (omega arith) (λ i l. same_bit seen fs h p i l)

-- the fifteen fields of a word that was read to its end
pub word_read : (word places seen k : ℕ) → word < 2 ^ 64 → places ≡ word / 16 → seen < 2 ^ 16 → 15 ≤ k → IsSeen seen (take k (fields 15 places)) → (seen ≡ 32767) ↔ NamesEachSlot word
word_read word places seen k fits e small all h =
    let long = length-fields 15 places in
    let whole : take k (fields 15 places) ≡ fields 15 places = take_all k (fields 15 places) (omega (arith, long)) in
    let read : IsSeen seen (fields 15 places) = rw whole at h in (
      λ s. record { fits = fits; each_once = rw e at (every_slot_seen seen (fields 15 places) long s read) },
      λ w. seen_of_each seen (fields 15 places) small read (rw e w.each_once),
    )
