-- Places and bytes give each other back.
use Rattle.std.proofs.Common.{ℕ, zero, suc, ◌≡◌, ◌<◌, ◌≤◌, ◌+◌, ◌-◌, ◌*◌, ◌/◌, ◌%◌, ◌^◌, List, [], ◌∷◌, ◌++◌, length, take, drop, replicate, get_or, ⊎_elim, refl, sym, ap, ◌∙◌, arith}
use Rattle.std.proofs.lemmas.Bool.{cases_lt}
use Rattle.std.proofs.lemmas.List.{length-drop, length-append, length-take-le, take-take, take_at, drop_at, take-append-drop}
use Rattle.std.proofs.lemmas.Nat.{mod_below, mod-mul-add, be_bytes_8, from_be_bytes-to_be_bytes_8}
use Rattle.std.proofs.Math.Nat.{one-le-pow}
use Rattle.std.specs.Int.{w64, byte_at, bytes_high_first, to_be_bytes}
use Rattle.std.specs.Slice.Scan.{big_endian}
use Rattle.mt_slice.specs.Place.{Place, last, deeper, first_class, IsCanonical, AreBytes, slice_number, place_of, bytes_of_place}
use Rattle.mt_slice.proofs.Slices.{big_endian-append, big_endian-split, big_endian-below, from_be_bytes-big_endian, first_eight, length-first_eight, first_eight-long, bytes-first_eight, bytes-append, bytes-take, bytes-drop, slice_number-below, slice_number-short, slice_number-long}
use Rattle.mt_slice.proofs.PlaceOn.{place_of-short, place_of-long, by_layers}

reads_fit : (xs : List ℕ) → AreBytes xs → (i : ℕ) → get_or xs i 0 < 256
reads_fit [] b i = omega arith
reads_fit (x ∷ xs) b zero = b.0
reads_fit (x ∷ xs) b (suc i) = reads_fit xs b.1 i

-- The eight bytes of a slice come back from it.
to_be_bytes-slice_number : (xs : List ℕ) → AreBytes xs → to_be_bytes w64 (slice_number xs) ≡ first_eight xs
unfolding slice_number
to_be_bytes-slice_number xs b =
    be_bytes_8 (first_eight xs) (slice_number xs) (length-first_eight xs) (reads_fit (first_eight xs) (bytes-first_eight xs b))
    (sym (from_be_bytes-big_endian (first_eight xs) (length-first_eight xs)))

taken_back : (ks : List ℕ) → length ks ≤ 8 → take (length ks) (first_eight ks) ≡ ks
taken_back ks h =
    take-take (length ks) 8 (ks ++ replicate 8 0) h ∙ take_at ks (replicate 8 0) (length ks) refl

-- The bytes of a place of bytes are those bytes.
pub bytes_of_place-place_of : (ks : List ℕ) → AreBytes ks → bytes_of_place (place_of ks) ≡ ks
bytes_of_place-place_of = by_layers (λ ks. AreBytes ks → bytes_of_place (place_of ks) ≡ ks) few more
  where
    few : (ks : List ℕ) → length ks ≤ 8 → AreBytes ks → bytes_of_place (place_of ks) ≡ ks
    few ks l b =
        ap bytes_of_place (place_of-short ks l) ∙ ap (take (length ks)) (to_be_bytes-slice_number ks b) ∙ taken_back ks l

    more : (ks : List ℕ) → 8 < length ks → (AreBytes (drop 8 ks) → bytes_of_place (place_of (drop 8 ks)) ≡ drop 8 ks) → AreBytes ks → bytes_of_place (place_of ks) ≡ ks
    more ks l rest b =
        let front : to_be_bytes w64 (slice_number ks) ≡ take 8 ks = to_be_bytes-slice_number ks b ∙ first_eight-long ks (omega arith) in
        ap bytes_of_place (place_of-long ks l) ∙ ap (λ (w : List ℕ). w ++ bytes_of_place (place_of (drop 8 ks))) front
        ∙ ap (λ (w : List ℕ). take 8 ks ++ w) (rest (bytes-drop 8 ks b)) ∙ take-append-drop 8 ks

some_class : (ks : List ℕ) → 0 < length ks → 0 < first_class (place_of ks)
some_class ks h = ⊎_elim (λ (l : 8 < length ks). rw (place_of-long ks l) (omega arith)) (λ (l : length ks ≤ 8). rw (place_of-short ks l) h) (cases_lt 8 (length ks))

no_padding : (a n : ℕ) → a * 256 ^ n % 256 ^ n ≡ 0
no_padding a n =
    let pos : 0 < 256 ^ n = one-le-pow n 256 (omega arith) in
    let e : a * 256 ^ n ≡ a * 256 ^ n + 0 = omega arith in
    ap (λ (w : ℕ). w % 256 ^ n) e ∙ mod-mul-add a (256 ^ n) 0 pos

-- The place of bytes is canonical.
pub IsCanonical-place_of : (ks : List ℕ) → AreBytes ks → IsCanonical (place_of ks)
IsCanonical-place_of = by_layers (λ ks. AreBytes ks → IsCanonical (place_of ks)) few more
  where
    few : (ks : List ℕ) → length ks ≤ 8 → AreBytes ks → IsCanonical (place_of ks)
    few ks l b =
        let padded : slice_number ks % 256 ^ (8 - length ks) ≡ 0 = rw (slice_number-short ks l) (no_padding (big_endian 0 ks) (8 - length ks)) in
        rw (place_of-short ks l) (l, slice_number-below ks b, padded)

    more : (ks : List ℕ) → 8 < length ks → (AreBytes (drop 8 ks) → IsCanonical (place_of (drop 8 ks))) → AreBytes ks → IsCanonical (place_of ks)
    more ks l rest b =
        rw (place_of-long ks l) (slice_number-below ks b, some_class (drop 8 ks) (omega (arith, length-drop 8 ks)), rest (bytes-drop 8 ks b))

byte_at-below : (i n : ℕ) → byte_at i n < 256
byte_at-below zero n = omega arith
byte_at-below (suc i) n = mod_below (n / 256 ^ suc i) 256 (omega arith)

high_bytes : (k n : ℕ) → AreBytes (bytes_high_first k n)
high_bytes zero n = tt
high_bytes (suc k) n = (byte_at-below k n, high_bytes k n)

length-high : (k n : ℕ) → length (bytes_high_first k n) ≡ k
length-high zero n = refl
length-high (suc k) n = ap suc (length-high k n)

big_endian-to_be_bytes : (s : ℕ) → s < 2 ^ 64 → big_endian 0 (to_be_bytes w64 s) ≡ s
big_endian-to_be_bytes s h = sym (from_be_bytes-big_endian (to_be_bytes w64 s) (length-high 8 s)) ∙ from_be_bytes-to_be_bytes_8 s h

-- what is left of a padded number below its padding
nothing_below : (a r s w : ℕ) → s ≡ a * w + r → r < w → s % w ≡ 0 → a * w ≡ s
nothing_below a r s w e h z =
    let same : (a * w + r) % w ≡ r = mod-mul-add a w r h in
    let zr : r ≡ 0 = sym same ∙ ap (λ (v : ℕ). v % w) (sym e) ∙ z in
    omega arith

-- A padded slice is the number of the bytes that are not its padding.
slice_back : (s k : ℕ) → k ≤ 8 → s < 2 ^ 64 → s % 256 ^ (8 - k) ≡ 0 → slice_number (take k (to_be_bytes w64 s)) ≡ s
slice_back s k le h z =
    let xs = to_be_bytes w64 s in
    let len : length (take k xs) ≡ k = length-take-le k xs (omega (arith, length-high 8 s)) in
    let left : length (drop k xs) ≡ 8 - k = omega (arith, length-drop k xs, length-high 8 s) in
    let whole : big_endian 0 (take k xs ++ drop k xs) ≡ s = ap (big_endian 0) (take-append-drop k xs) ∙ big_endian-to_be_bytes s h in
    let cut : big_endian 0 (take k xs ++ drop k xs) ≡ big_endian 0 (take k xs) * 256 ^ length (drop k xs) + big_endian 0 (drop k xs) =
    big_endian-append 0 (take k xs) (drop k xs) ∙ big_endian-split (big_endian 0 (take k xs)) (drop k xs) in
    let parts : s ≡ big_endian 0 (take k xs) * 256 ^ (8 - k) + big_endian 0 (drop k xs) = sym whole ∙ rw left at cut in
    let below : big_endian 0 (drop k xs) < 256 ^ (8 - k) = rw left at (big_endian-below (drop k xs) (bytes-drop k xs (high_bytes 8 s))) in
    let number : slice_number (take k xs) ≡ big_endian 0 (take k xs) * 256 ^ (8 - k) = rw len at (slice_number-short (take k xs) (omega arith)) in
    number ∙ nothing_below (big_endian 0 (take k xs)) (big_endian 0 (drop k xs)) s (256 ^ (8 - k)) parts below z

some_bytes : (x : Place) → IsCanonical x → 0 < first_class x → 0 < length (bytes_of_place x)
some_bytes (last s k) c h =
    let le : k ≤ 8 = c.0 in
    let len : length (take k (to_be_bytes w64 s)) ≡ k = length-take-le k (to_be_bytes w64 s) (omega (arith, length-high 8 s)) in
    omega arith
some_bytes (deeper s x) c h = omega (arith, length-append (to_be_bytes w64 s) (bytes_of_place x), length-high 8 s)

-- The place of the bytes of a canonical place is that place.
pub place_of-bytes_of_place : (x : Place) → IsCanonical x → place_of (bytes_of_place x) ≡ x
place_of-bytes_of_place (last s k) c =
    let le : k ≤ 8 = c.0 in
    let xs = to_be_bytes w64 s in
    let len : length (take k xs) ≡ k = length-take-le k xs (omega (arith, length-high 8 s)) in
    place_of-short (take k xs) (omega arith) ∙ ap (last (slice_number (take k xs))) len
    ∙ ap (λ (w : ℕ). last w k) (slice_back s k le c.1 c.2)
place_of-bytes_of_place (deeper s x) c =
    let xs = to_be_bytes w64 s in
    let ys = bytes_of_place x in
    let eight : length xs ≡ 8 = length-high 8 s in
    let some : 0 < length ys = some_bytes x c.2 c.1 in
    let long : 8 < length (xs ++ ys) = omega (arith, length-append xs ys) in
    let front : slice_number (xs ++ ys) ≡ s =
    slice_number-long (xs ++ ys) (omega arith) ∙ ap (big_endian 0) (take_at xs ys 8 eight) ∙ big_endian-to_be_bytes s c.0 in
    let rest : place_of (drop 8 (xs ++ ys)) ≡ x = ap place_of (drop_at xs ys 8 eight) ∙ place_of-bytes_of_place x c.2 in
    place_of-long (xs ++ ys) long ∙ ap (λ (w : ℕ). deeper w (place_of (drop 8 (xs ++ ys)))) front ∙ ap (deeper s) rest

-- The bytes of a place are bytes.
pub bytes-bytes_of_place : (x : Place) → AreBytes (bytes_of_place x)
bytes-bytes_of_place (last s k) = bytes-take k (to_be_bytes w64 s) (high_bytes 8 s)
bytes-bytes_of_place (deeper s x) = bytes-append (to_be_bytes w64 s) (bytes_of_place x) (high_bytes 8 s) (bytes-bytes_of_place x)

-- Bytes of one place are the same.
pub same_from_place_of : (ks ls : List ℕ) → AreBytes ks → AreBytes ls → place_of ks ≡ place_of ls → ks ≡ ls
same_from_place_of ks ls b c e = sym (bytes_of_place-place_of ks b) ∙ ap bytes_of_place e ∙ bytes_of_place-place_of ls c
