-- The place of bytes, taken byte by byte, and slice by slice.
use Rattle.std.proofs.Common.{ℕ, zero, suc, ◌≡◌, ◌<◌, ◌≤◌, ◌+◌, ◌-◌, ◌*◌, ◌⊎◌, inl, inr, List, [], ◌∷◌, ◌++◌, length, take, drop, replicate, true, false, leb, ⊎_elim, refl, sym, ap, ◌∙◌, arith}
use Rattle.std.proofs.lemmas.List.{take-replicate, length-drop, drop-drop}
use Rattle.std.proofs.lemmas.Bool.{leb-true, leb-false, cond-true, cond-false, cases_Bool, cases_lt}
use Rattle.std.specs.Slice.Scan.{big_endian}
use Rattle.mt_slice.specs.Place.{Place, last, deeper, under, slice_number, place_within, place_of, rest_at, slices_above}
use Rattle.mt_slice.specs.Classes.{class_of, place_at}

-- a number, with the given number of zero bytes after its bytes
abbrev pub scale : ℕ → ℕ → ℕ
scale zero v = v
scale (suc m) v = scale m (v * 256)

-- the place of the bytes that follow, if the slice has room for `left` more and `v` is the number of those before
abbrev pub place_on : ℕ → ℕ → List ℕ → Place
place_on left v [] = last (scale left v) (8 - left)
place_on zero v (k ∷ ks) = deeper v (place_on 7 k ks)
place_on (suc m) v (k ∷ ks) = place_on m (v * 256 + k) ks

scale-zeros : (m v : ℕ) → scale m v ≡ big_endian v (replicate m 0)
scale-zeros zero v = refl
scale-zeros (suc m) v =
    let e : v * 256 ≡ v * 256 + 0 = omega arith in
    scale-zeros m (v * 256) ∙ ap (λ (w : ℕ). big_endian w (replicate m 0)) e

same_last : (s t i j : ℕ) → s ≡ t → i ≡ j → last s i ≡ last t j
same_last s t i j e f = cc

place_on-short : (m n v : ℕ) (ks : List ℕ) → length ks ≤ m → m ≤ 8 → m ≤ n →
    place_on m v ks ≡ last (big_endian v (take m (ks ++ replicate n 0))) (8 - m + length ks)
place_on-short m n v [] h g l =
    same_last _ _ _ _ (scale-zeros m v ∙ ap (big_endian v) (sym (take-replicate m n 0 l))) (omega arith)
place_on-short zero n v (k ∷ ks) h g l = absurd (omega arith)
place_on-short (suc m) n v (k ∷ ks) h g l =
    let e : 8 - m + length ks ≡ 8 - suc m + suc (length ks) = omega arith in
    place_on-short m n (v * 256 + k) ks (omega arith) (omega arith) (omega arith)
    ∙ ap (last (big_endian (v * 256 + k) (take m (ks ++ replicate n 0)))) e

place_on-long : (m n v : ℕ) (ks : List ℕ) → m < length ks → m ≤ n →
    place_on m v ks ≡ deeper (big_endian v (take m (ks ++ replicate n 0))) (place_on 8 0 (drop m ks))
place_on-long m n v [] h l = absurd (omega arith)
place_on-long zero n v (k ∷ ks) h l =
    let e : k ≡ 0 * 256 + k = omega arith in ap (λ (w : ℕ). deeper v (place_on 7 w ks)) e
place_on-long (suc m) n v (k ∷ ks) h l = place_on-long m n (v * 256 + k) ks (omega arith) (omega arith)

on_short : (ks : List ℕ) → length ks ≤ 8 → place_on 8 0 ks ≡ last (slice_number ks) (length ks)
unfolding slice_number
on_short ks h =
    let e : 8 - 8 + length ks ≡ length ks = omega arith in
    place_on-short 8 8 0 ks h (omega arith) (omega arith) ∙ ap (last (slice_number ks)) e

on_long : (ks : List ℕ) → 8 < length ks → place_on 8 0 ks ≡ deeper (slice_number ks) (place_on 8 0 (drop 8 ks))
unfolding slice_number
on_long ks h = place_on-long 8 8 0 ks h (omega arith)

within : (n : ℕ) (ks : List ℕ) → length ks ≤ n → place_within n ks ≡ place_on 8 0 ks
within zero ks h = sym (on_short ks (omega arith))
within (suc n) ks h = go (cases_Bool (leb (length ks) 8)) (within n (drop 8 ks))
  where
    go : (leb (length ks) 8 ≡ true) ⊎ (leb (length ks) 8 ≡ false) → (length (drop 8 ks) ≤ n → place_within n (drop 8 ks) ≡ place_on 8 0 (drop 8 ks)) →
        place_within (suc n) ks ≡ place_on 8 0 ks
    go (inl e) further =
        cond-true (leb (length ks) 8) (last (slice_number ks) (length ks)) (deeper (slice_number ks) (place_within n (drop 8 ks))) e
        ∙ sym (on_short ks (leb-true (length ks) 8 e))
    go (inr e) further =
        let more : 8 < length ks = leb-false (length ks) 8 e in
        let rest : place_within n (drop 8 ks) ≡ place_on 8 0 (drop 8 ks) = further (omega (arith, length-drop 8 ks)) in
        cond-false (leb (length ks) 8) (last (slice_number ks) (length ks)) (deeper (slice_number ks) (place_within n (drop 8 ks))) e
        ∙ ap (deeper (slice_number ks)) rest ∙ sym (on_long ks more)

-- The place of bytes, taken byte by byte.
pub place_of-place_on : (ks : List ℕ) → place_of ks ≡ place_on 8 0 ks
unfolding place_of
place_of-place_on ks = within (length ks) ks (omega arith)

-- At most eight bytes are their last slice.
pub place_of-short : (ks : List ℕ) → length ks ≤ 8 → place_of ks ≡ last (slice_number ks) (length ks)
place_of-short ks h = place_of-place_on ks ∙ on_short ks h

-- More than eight bytes continue past their first eight.
pub place_of-long : (ks : List ℕ) → 8 < length ks → place_of ks ≡ deeper (slice_number ks) (place_of (drop 8 ks))
place_of-long ks h = place_of-place_on ks ∙ on_long ks h ∙ ap (deeper (slice_number ks)) (sym (place_of-place_on (drop 8 ks)))

-- Induction by layers.
by_size : (P : List ℕ → Type 0) → ((ks : List ℕ) → length ks ≤ 8 → P ks) → ((ks : List ℕ) → 8 < length ks → P (drop 8 ks) → P ks) →
    (n : ℕ) (ks : List ℕ) → length ks ≤ n → P ks
by_size P few more zero ks h = few ks (omega arith)
by_size P few more (suc n) ks h =
    ⊎_elim (λ (l : 8 < length ks). more ks l (by_size P few more n (drop 8 ks) (omega (arith, length-drop 8 ks)))) (few ks) (cases_lt 8 (length ks))

pub by_layers : (P : List ℕ → Type 0) → ((ks : List ℕ) → length ks ≤ 8 → P ks) → ((ks : List ℕ) → 8 < length ks → P (drop 8 ks) → P ks) →
    (ks : List ℕ) → P ks
by_layers P few more ks = by_size P few more (length ks) ks (omega arith)

-- The place of bytes in the words of the slice and the class at which they stand.
pub place_of-place_at : (ks : List ℕ) → place_of ks ≡ place_at (slice_number ks) (class_of (length ks)) (place_of (drop 8 ks))
place_of-place_at ks = go (cases_Bool (leb (length ks) 8))
  where
    go : (leb (length ks) 8 ≡ true) ⊎ (leb (length ks) 8 ≡ false) → place_of ks ≡ place_at (slice_number ks) (class_of (length ks)) (place_of (drop 8 ks))
    go (inl e) = rw e (place_of-short ks (leb-true (length ks) 8 e))
    go (inr e) = rw e (place_of-long ks (leb-false (length ks) 8 e))

pub rest_at-next : (h : ℕ) (ks : List ℕ) → drop 8 (rest_at h ks) ≡ rest_at (h + 1) ks
rest_at-next h ks =
    let e : 8 * h + 8 ≡ 8 * (h + 1) = omega arith in
    drop-drop 8 (8 * h) ks ∙ ap (λ (w : ℕ). drop w ks) e

-- The place of a key's rest in a layer, in the words of its slice and class there.
pub place_of-rest_at : (h : ℕ) (ks : List ℕ) →
    place_of (rest_at h ks) ≡ place_at (slice_number (rest_at h ks)) (class_of (length (rest_at h ks))) (place_of (rest_at (h + 1) ks))
place_of-rest_at h ks =
    place_of-place_at (rest_at h ks)
    ∙ ap (λ (w : List ℕ). place_at (slice_number (rest_at h ks)) (class_of (length (rest_at h ks))) (place_of w)) (rest_at-next h ks)

-- A key in a layer that it comes to.
pub place_of-under : (h : ℕ) (ks : List ℕ) → 8 * h < length ks → place_of ks ≡ under (slices_above h ks) (place_of (rest_at h ks))
place_of-under zero ks g = refl
place_of-under (suc h) ks g =
    let before : place_of ks ≡ under (slices_above h ks) (place_of (rest_at h ks)) = place_of-under h ks (omega arith) in
    let long : 8 < length (rest_at h ks) = omega (arith, length-drop (8 * h) ks) in
    let e : 8 * h + 8 ≡ 8 * suc h = omega arith in
    let next : drop 8 (rest_at h ks) ≡ rest_at (suc h) ks = drop-drop 8 (8 * h) ks ∙ ap (λ (w : ℕ). drop w ks) e in
    before ∙ ap (under (slices_above h ks)) (place_of-long (rest_at h ks) long ∙ ap (λ (w : List ℕ). deeper (slice_number (rest_at h ks)) (place_of w)) next)
