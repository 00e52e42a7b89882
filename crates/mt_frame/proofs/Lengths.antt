-- The length of a frame is read as it was written.
use Rattle.std.proofs.Common.{◌≡◌, ℕ, ◌+◌, ◌*◌, ◌/◌, ◌%◌, ◌^◌, ◌<◌, ◌≤◌, ◌==◌, ◌&&◌, Bool, true, false, leb, List, [], ◌∷◌, length, refl, inl, inr, arith}
use Rattle.std.specs.List.{list_all}
use Rattle.std.proofs.lemmas.Bool.Decides.{eqb_tells, leb_tells}
use Rattle.mt_wire.proofs.Exact.{IsBytes}
use Rattle.mt_frame.specs.declared.limits.TheConstants.{LENGTH_BYTES, MAX_TEXT_BYTES}
use Rattle.mt_frame.specs.Spelling.{length_spelling}
use Rattle.mt_frame.specs.Ends.{has_zero, is_length, announced}

pub announced_again : (n : ℕ) → n ≤ MAX_TEXT_BYTES → announced (length_spelling n) ≡ n
announced_again n few = omega arith

not_zero : (m : ℕ) → ((128 + m) == 0) ≡ false
not_zero m = elim (eqb_tells (128 + m) 0) [ inl z ↦ absurd (omega (arith, z.1)) | inr s ↦ s.0 ]

high : (m : ℕ) → leb 128 (128 + m) ≡ true
high m = elim (leb_tells 128 (128 + m)) [ inl h ↦ h.0 | inr l ↦ absurd (omega (arith, l.1)) ]

pub length_clean : (n : ℕ) → has_zero (length_spelling n) ≡ false
length_clean n = rw (not_zero (n / 2 ^ 28 % 128), not_zero (n / 2 ^ 21 % 128), not_zero (n / 2 ^ 14 % 128), not_zero (n / 2 ^ 7 % 128), not_zero (n % 128)) refl

pub is_length_again : (n : ℕ) → 1 ≤ n → n ≤ MAX_TEXT_BYTES → is_length (length_spelling n) ≡ true
is_length_again n some few =
    let a = announced_again n few in
    elim (leb_tells 1 n) [
      | inl one ↦ elim (leb_tells n MAX_TEXT_BYTES) [
        | inl most ↦ rw (high (n / 2 ^ 28 % 128), high (n / 2 ^ 21 % 128), high (n / 2 ^ 14 % 128), high (n / 2 ^ 7 % 128), high (n % 128)) (rw (a, one.0, most.0) refl)
        | inr more ↦ absurd (omega (arith, more.1, few))
      ]
      | inr none ↦ absurd (omega (arith, none.1, some))
    ]

-- five bytes that are a length are the spelling of what they announce
two_ways : (t : Bool) → t ≡ true → t ≡ false → ⊥
two_ways true e f = absurd (cc)
two_ways false e f = absurd (cc)

high_of : (b : ℕ) → leb 128 b ≡ true → 128 ≤ b
high_of b e = elim (leb_tells 128 b) [ inl h ↦ h.1 | inr l ↦ absurd (two_ways (leb 128 b) e l.0) ]

parts_of : (a b : Bool) → (a && b) ≡ true → (a ≡ true) × (b ≡ true)
parts_of true true e = (refl, refl)
parts_of true false e = absurd (cc)
parts_of false b e = absurd (cc)

few_of : (m n : ℕ) → leb m n ≡ true → m ≤ n
few_of m n e = elim (leb_tells m n) [ inl h ↦ h.1 | inr l ↦ absurd (two_ways (leb m n) e l.0) ]

length_told : (part : List ℕ) → is_length part ≡ true → length part ≡ LENGTH_BYTES
length_told part is =
    let p = parts_of ((length part == LENGTH_BYTES) && list_all (λ (byte : ℕ). leb 128 byte) part && leb 1 (announced part)) (leb (announced part) MAX_TEXT_BYTES) is in
    let q = parts_of ((length part == LENGTH_BYTES) && list_all (λ (byte : ℕ). leb 128 byte) part) (leb 1 (announced part)) p.0 in
    let r = parts_of (length part == LENGTH_BYTES) (list_all (λ (byte : ℕ). leb 128 byte) part) q.0 in
    elim (eqb_tells (length part) LENGTH_BYTES) [ inl same ↦ same.1 | inr apart ↦ absurd (two_ways (length part == LENGTH_BYTES) r.0 apart.0) ]

five : (a b c d e : ℕ) → 128 ≤ a → a < 256 → 128 ≤ b → b < 256 → 128 ≤ c → c < 256 → 128 ≤ d → d < 256 → 128 ≤ e → e < 256
    → (n : ℕ) → n ≡ a % 128 * 2 ^ 28 + b % 128 * 2 ^ 21 + c % 128 * 2 ^ 14 + d % 128 * 2 ^ 7 + e % 128
    → (a ≡ 128 + n / 2 ^ 28 % 128) × (b ≡ 128 + n / 2 ^ 21 % 128) × (c ≡ 128 + n / 2 ^ 14 % 128) × (d ≡ 128 + n / 2 ^ 7 % 128) × (e ≡ 128 + n % 128)
five a b c d e la ha lb hb lc hc ld hd le he n is = (omega arith, omega arith, omega arith, omega arith, omega arith)

pub length_back : (part : List ℕ) → IsBytes part → is_length part ≡ true → (part ≡ length_spelling (announced part)) × (announced part ≤ MAX_TEXT_BYTES)
length_back (a ∷ b ∷ c ∷ d ∷ e ∷ []) fits is =
    let p = parts_of (list_all (λ (byte : ℕ). leb 128 byte) (a ∷ b ∷ c ∷ d ∷ e ∷ []) && leb 1 (announced (a ∷ b ∷ c ∷ d ∷ e ∷ []))) (leb (announced (a ∷ b ∷ c ∷ d ∷ e ∷ [])) MAX_TEXT_BYTES) is in
    let q = parts_of (list_all (λ (byte : ℕ). leb 128 byte) (a ∷ b ∷ c ∷ d ∷ e ∷ [])) (leb 1 (announced (a ∷ b ∷ c ∷ d ∷ e ∷ []))) p.0 in
    let qa = parts_of (leb 128 a) _ q.0 in
    let qb = parts_of (leb 128 b) _ qa.1 in
    let qc = parts_of (leb 128 c) _ qb.1 in
    let qd = parts_of (leb 128 d) _ qc.1 in
    let qe = parts_of (leb 128 e) _ qd.1 in
    let f = five a b c d e (high_of a qa.0) (fits 0) (high_of b qb.0) (fits 1) (high_of c qc.0) (fits 2) (high_of d qd.0) (fits 3) (high_of e qe.0) (fits 4) (announced (a ∷ b ∷ c ∷ d ∷ e ∷ [])) refl in
    (rw (← f.0, ← f.1, ← f.2, ← f.3, ← f.4) refl, few_of (announced (a ∷ b ∷ c ∷ d ∷ e ∷ [])) MAX_TEXT_BYTES p.1)
length_back part fits is = let five_bytes = length_told part is in absurd (omega (arith, five_bytes))
