-- The number of a slice: how it follows from the bytes.
use Rattle.std.proofs.Common.{ℕ, zero, suc, ◌≡◌, ◌<◌, ◌≤◌, ◌+◌, ◌-◌, ◌*◌, ◌^◌, List, [], ◌∷◌, ◌++◌, length, take, drop, replicate, get_or, refl, sym, ap, ◌∙◌, arith}
use Rattle.std.proofs.lemmas.List.{take-replicate, drop-replicate, take-append-le, length-take-le, length-append}
use Rattle.std.proofs.lemmas.Nat.{row_fits}
use Rattle.std.proofs.Math.Nat.{pow-suc}
use Rattle.std.specs.Int.{w64, from_be_bytes}
use Rattle.std.specs.Slice.Scan.{big_endian}
use Rattle.mt_slice.specs.Place.{AreBytes, slice_number}

pub big_endian-append : (v : ℕ) (xs ys : List ℕ) → big_endian v (xs ++ ys) ≡ big_endian (big_endian v xs) ys
big_endian-append v [] ys = refl
big_endian-append v (x ∷ xs) ys = big_endian-append (v * 256 + x) xs ys

pub big_endian-split : (v : ℕ) (xs : List ℕ) → big_endian v xs ≡ v * 256 ^ length xs + big_endian 0 xs
big_endian-split v [] = omega arith
big_endian-split v (x ∷ xs) =
    let e = big_endian-split (v * 256 + x) xs in
    let f = big_endian-split (0 * 256 + x) xs in
    let p = pow-suc 256 (length xs) in
    let q : 256 ^ suc (length xs) ≡ 256 ^ length xs * 256 = p in
    let n = 256 ^ length xs in
    let h : (v * 256 + x) * n ≡ v * (n * 256) + (0 * 256 + x) * n = grind arith in
    rw (e, f, q, h) (omega arith)

pub big_endian-zeros : (v m : ℕ) → big_endian v (replicate m 0) ≡ v * 256 ^ m
big_endian-zeros v zero = omega arith
big_endian-zeros v (suc m) =
    let e = big_endian-zeros (v * 256 + 0) m in
    let n = 256 ^ m in
    let h : (v * 256 + 0) * n ≡ v * (n * 256) = grind arith in
    rw (e, pow-suc 256 m, h) refl

pub big_endian-below : (xs : List ℕ) → AreBytes xs → big_endian 0 xs < 256 ^ length xs
big_endian-below [] b = omega arith
big_endian-below (x ∷ xs) b =
    let e = big_endian-split (0 * 256 + x) xs in
    let h = big_endian-below xs b.1 in
    let n = 256 ^ length xs in
    let small : x < 256 = b.0 in
    let g : (0 * 256 + x) * n + n ≤ 256 * n = row_fits (0 * 256 + x) n 256 n (omega arith) (omega arith) in
    rw (e, pow-suc 256 (length xs)) (omega arith)

-- the eight bytes, each with what it is worth
abbrev pub worth_of_eight : List ℕ → ℕ
worth_of_eight xs =
    get_or xs 0 0 * 72057594037927936 + get_or xs 1 0 * 281474976710656 + get_or xs 2 0 * 1099511627776 + get_or xs 3 0 * 4294967296
    + get_or xs 4 0 * 16777216 + get_or xs 5 0 * 65536 + get_or xs 6 0 * 256 + get_or xs 7 0

pub from_first_eight : (xs : List ℕ) → 8 ≤ length xs → worth_of_eight xs ≡ big_endian 0 (take 8 (xs ++ replicate 8 0))
from_first_eight (a ∷ (b ∷ (c ∷ (d ∷ (e ∷ (f ∷ (g ∷ (i ∷ xs)))))))) h = omega arith
from_first_eight _ h = absurd (omega arith)

pub from_be_bytes-big_endian : (xs : List ℕ) → length xs ≡ 8 → from_be_bytes w64 xs ≡ big_endian 0 xs
from_be_bytes-big_endian (a ∷ (b ∷ (c ∷ (d ∷ (e ∷ (f ∷ (g ∷ (i ∷ [])))))))) h = omega arith
from_be_bytes-big_endian _ h = absurd (omega arith)

-- the bytes that a slice is the number of
abbrev pub first_eight : List ℕ → List ℕ
first_eight xs = take 8 (xs ++ replicate 8 0)

pub length-first_eight : (xs : List ℕ) → length (first_eight xs) ≡ 8
length-first_eight xs = length-take-le 8 (xs ++ replicate 8 0) (omega (arith, length-append xs (replicate 8 0)))

pub from_be_bytes-first_eight : (xs : List ℕ) → from_be_bytes w64 (first_eight xs) ≡ big_endian 0 (first_eight xs)
from_be_bytes-first_eight xs = from_be_bytes-big_endian (first_eight xs) (length-first_eight xs)

take-padded : (m n : ℕ) (xs : List ℕ) → length xs ≤ m → m ≤ n → take m (xs ++ replicate n 0) ≡ xs ++ replicate (m - length xs) 0
take-padded m n [] h g =
    let e : m ≡ m - 0 = omega arith in
    take-replicate m n 0 g ∙ ap (λ (k : ℕ). replicate k 0) e
take-padded zero n (x ∷ xs) h g = absurd (omega arith)
take-padded (suc m) n (x ∷ xs) h g =
    let e : m - length xs ≡ suc m - suc (length xs) = omega arith in
    ap (λ (w : List ℕ). x ∷ w) (take-padded m n xs (omega arith) (omega arith) ∙ ap (λ (k : ℕ). xs ++ replicate k 0) e)

-- fewer than eight bytes are padded, of more the first are taken
pub first_eight-short : (xs : List ℕ) → length xs ≤ 8 → first_eight xs ≡ xs ++ replicate (8 - length xs) 0
first_eight-short xs h = take-padded 8 8 xs h (omega arith)

pub first_eight-padded : (xs : List ℕ) → length xs ≤ 8 → xs ++ drop (length xs) (replicate 8 0) ≡ first_eight xs
first_eight-padded xs h = ap (λ (w : List ℕ). xs ++ w) (drop-replicate (length xs) 8 0) ∙ sym (first_eight-short xs h)

pub first_eight-long : (xs : List ℕ) → 8 ≤ length xs → first_eight xs ≡ take 8 xs
first_eight-long xs h = take-append-le 8 xs (replicate 8 0) h

pub bytes-append : (xs ys : List ℕ) → AreBytes xs → AreBytes ys → AreBytes (xs ++ ys)
bytes-append [] ys b c = c
bytes-append (x ∷ xs) ys b c = (b.0, bytes-append xs ys b.1 c)

pub bytes-take : (n : ℕ) (xs : List ℕ) → AreBytes xs → AreBytes (take n xs)
bytes-take zero xs b = tt
bytes-take (suc n) [] b = tt
bytes-take (suc n) (x ∷ xs) b = (b.0, bytes-take n xs b.1)

pub bytes-drop : (n : ℕ) (xs : List ℕ) → AreBytes xs → AreBytes (drop n xs)
bytes-drop zero xs b = b
bytes-drop (suc n) [] b = tt
bytes-drop (suc n) (x ∷ xs) b = bytes-drop n xs b.1

zeros_are_bytes : (n : ℕ) → AreBytes (replicate n 0)
zeros_are_bytes zero = tt
zeros_are_bytes (suc n) = (omega arith, zeros_are_bytes n)

pub bytes-first_eight : (xs : List ℕ) → AreBytes xs → AreBytes (first_eight xs)
bytes-first_eight xs b = bytes-take 8 (xs ++ replicate 8 0) (bytes-append xs (replicate 8 0) b (zeros_are_bytes 8))

pub slice_number-below : (xs : List ℕ) → AreBytes xs → slice_number xs < 2 ^ 64
unfolding slice_number
slice_number-below xs b =
    let h : big_endian 0 (first_eight xs) < 256 ^ length (first_eight xs) = big_endian-below (first_eight xs) (bytes-first_eight xs b) in
    let e = length-first_eight xs in
    rw e at h

-- a slice of at most eight bytes
pub slice_number-short : (xs : List ℕ) → length xs ≤ 8 → slice_number xs ≡ big_endian 0 xs * 256 ^ (8 - length xs)
unfolding slice_number
slice_number-short xs h =
    rw (first_eight-short xs h, big_endian-append 0 xs (replicate (8 - length xs) 0), big_endian-zeros (big_endian 0 xs) (8 - length xs)) refl

-- the slice of bytes of which eight are there
pub slice_number-long : (xs : List ℕ) → 8 ≤ length xs → slice_number xs ≡ big_endian 0 (take 8 xs)
unfolding slice_number
slice_number-long xs h = ap (big_endian 0) (first_eight-long xs h)

-- what holds of each byte that is read
pub are_bytes_from_reads : (xs : List ℕ) → ((i : ℕ) → get_or xs i 0 < 256) → AreBytes xs
are_bytes_from_reads [] h = tt
are_bytes_from_reads (x ∷ xs) h = (h 0, are_bytes_from_reads xs (λ i. h (suc i)))
