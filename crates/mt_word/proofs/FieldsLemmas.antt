-- The fields of a word, and the word of fields.
use Rattle.std.proofs.Common.{◌≡◌, ℕ, zero, suc, ◌+◌, ◌*◌, ◌/◌, ◌%◌, ◌^◌, ◌<◌, ◌≤◌, List, [], ◌∷◌, ◌++◌, length, take, drop, get_or, refl, ap, sym, ◌∙◌, arith}
use Rattle.std.specs.List.{All}
use Rattle.std.proofs.lemmas.List.{get_or-take, get_or-drop, take_at, drop_at}
use Rattle.std.proofs.lemmas.Nat.{div-mul-add, mod-mul-add}
use Rattle.std.proofs.Math.Nat.{pow-suc, pow-succ', pow-le-pow_right, mul_assoc, div-div-eq-div-mul}
use Rattle.std.proofs.Math.ListN.{length-take, length-drop}
use Rattle.mt_word.specs.Fields.{fields, word_of_fields}

-- one field of a word
pub field_at : (k w i d : ℕ) → i < k → get_or (fields k w) i d ≡ w / 16 ^ i % 16
unfolding fields
field_at zero w i d h = absurd (omega arith)
field_at (suc k) w zero d h = omega arith
field_at (suc k) w (suc i) d h =
    field_at k (w / 16) i d (omega arith) ∙ ap (λ n. n % 16) (div-div-eq-div-mul w 16 (16 ^ i) ∙ ap (λ n. w / n) (sym (pow-succ' 16 i)))

-- each field is below 16
pub fields_fit : (k w : ℕ) → All (λ field. field < 16) (fields k w)
unfolding fields
fields_fit zero w j d h = absurd (omega arith)
fields_fit (suc k) w zero d h = omega arith
fields_fit (suc k) w (suc j) d h = fields_fit k (w / 16) j d (omega arith)

-- the fields of a word are those it was made of
pub fields-word_of_fields : (ps : List ℕ) → All (λ field. field < 16) ps → fields (length ps) (word_of_fields ps) ≡ ps
unfolding fields
fields-word_of_fields [] h = refl
fields-word_of_fields (p ∷ ps) h =
    let first : p < 16 = h 0 0 (omega arith) in
    let low : (word_of_fields ps * 16 + p) % 16 ≡ p = omega arith in
    let high : (word_of_fields ps * 16 + p) / 16 ≡ word_of_fields ps = omega arith in
    rw (low, high, fields-word_of_fields ps (λ k d l. h (suc k) d (omega arith)))

pub word_of_fields_below : (ps : List ℕ) → All (λ field. field < 16) ps → word_of_fields ps < 16 ^ length ps
word_of_fields_below [] h = omega arith
word_of_fields_below (p ∷ ps) h =
    let first : p < 16 = h 0 0 (omega arith) in
    let rest = word_of_fields_below ps (λ k d l. h (suc k) d (omega arith)) in
    omega (arith, rest, pow-suc 16 (length ps))

-- a word is its lowest n fields and those above them
pub word_split : (n : ℕ) (ps : List ℕ) → word_of_fields (drop n ps) * 16 ^ n + word_of_fields (take n ps) ≡ word_of_fields ps
word_split zero ps = omega arith
word_split (suc n) [] = omega arith
word_split (suc n) (p ∷ ps) =
    let high = word_of_fields (drop n ps) in
    let rest = word_split n ps in
    let moved : high * 16 ^ suc n ≡ high * 16 ^ n * 16 = rw (pow-suc 16 n, mul_assoc) in
    omega (arith, rest, moved)

-- the first n fields of a list of them
pub fit-take : (n : ℕ) (ps : List ℕ) → All (λ field. field < 16) ps → All (λ field. field < 16) (take n ps)
fit-take n ps h k d l = rw (get_or-take n ps k d (omega (arith, length-take n ps))) (h k d (omega (arith, length-take n ps)))

pub fit-drop : (n : ℕ) (ps : List ℕ) → All (λ field. field < 16) ps → All (λ field. field < 16) (drop n ps)
fit-drop n ps h k d l = rw (get_or-drop n ps k d) (h (n + k) d (omega (arith, length-drop n ps)))

-- the lowest n fields make a number of n fields
take_below : (n : ℕ) (ps : List ℕ) → All (λ field. field < 16) ps → word_of_fields (take n ps) < 16 ^ n
take_below n ps h =
    let short : length (take n ps) ≤ n = omega (arith, length-take n ps) in
    omega (arith, word_of_fields_below (take n ps) (fit-take n ps h), pow-le-pow_right {n = 16} (omega arith) short)

pub word_of_fields-take : (n : ℕ) (ps : List ℕ) → All (λ field. field < 16) ps → word_of_fields ps % 16 ^ n ≡ word_of_fields (take n ps)
word_of_fields-take n ps h = rw (← word_split n ps) (mod-mul-add _ _ _ (take_below n ps h))

pub word_of_fields-drop : (n : ℕ) (ps : List ℕ) → All (λ field. field < 16) ps → word_of_fields ps / 16 ^ n ≡ word_of_fields (drop n ps)
word_of_fields-drop n ps h = rw (← word_split n ps) (div-mul-add _ _ _ (take_below n ps h))

pub word_of_fields-append : (xs ys : List ℕ) (n : ℕ) → length xs ≡ n → word_of_fields (xs ++ ys) ≡ word_of_fields ys * 16 ^ n + word_of_fields xs
word_of_fields-append xs ys n e =
    sym (word_split n (xs ++ ys)) ∙ rw (take_at xs ys n e, drop_at xs ys n e)
