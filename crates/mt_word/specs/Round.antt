-- A word and its slots give each other back.
use Rattle.std.proofs.Common.{◌≡◌, ℕ, zero, suc, ◌/◌, ◌%◌, ◌^◌, ◌<◌, ◌≤◌, length, refl, arith}
use Rattle.std.proofs.lemmas.List.{take-append-drop, length-take-le}
use Rattle.std.proofs.Math.Nat.{pow-suc}
use Rattle.mt_word.specs.Fields.{fields, word_of_fields}
use Rattle.mt_word.specs.Slots.{slots_of_word, word_of_slots, places, NamesEachSlot}

pub length-fields : (k w : ℕ) → length (fields k w) ≡ k
unfolding fields
length-fields zero w = refl
length-fields (suc k) w = rw (length-fields k (w / 16))

pub word_of_fields-fields : (k w : ℕ) → w < 16 ^ k → word_of_fields (fields k w) ≡ w
unfolding fields
word_of_fields-fields zero w h = omega arith
word_of_fields-fields (suc k) w h =
    let below : w / 16 < 16 ^ k = omega (arith, pow-suc 16 k) in
    rw (word_of_fields-fields k (w / 16) below) (omega arith)

pub word_of_slots-slots_of_word : (w : ℕ) → NamesEachSlot w → word_of_slots (slots_of_word w) ≡ w
word_of_slots-slots_of_word w h =
    let all = fields 15 (w / 16) in
    let n = w % 16 in
    let long : n ≤ length all = omega (arith, length-fields 15 (w / 16)) in
    let whole : word_of_fields all ≡ w / 16 = word_of_fields-fields 15 (w / 16) (omega (arith, h.fits)) in
    rw (take-append-drop n all, length-take-le n all long, whole) (omega arith)

pub length-live : (w : ℕ) → length (slots_of_word w).live ≡ w % 16
length-live w =
    let all = fields 15 (w / 16) in
    let long : w % 16 ≤ length all = omega (arith, length-fields 15 (w / 16)) in
    length-take-le (w % 16) all long

pub places-slots_of_word : (w : ℕ) → places (slots_of_word w) ≡ fields 15 (w / 16)
places-slots_of_word w = take-append-drop (w % 16) (fields 15 (w / 16))
