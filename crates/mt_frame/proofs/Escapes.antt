-- Reading a text undoes its spelling, and a text has no zero.
use Rattle.std.proofs.Common.{◌≡◌, ℕ, ◌≤◌, ◌==◌, Bool, true, false, List, [], ◌∷◌, ◌++◌, length, Option, Some, None, refl, sym, ap, ◌∙◌, inl, inr, arith, length-append}
use Rattle.std.proofs.lemmas.Bool.Decides.{eqb_tells}
use Rattle.std.proofs.lemmas.List.Concat.{flat_map-cons}
use Rattle.std.proofs.lemmas.List.Folds.{list_any-append}
use Rattle.mt_frame.specs.Spelling.{escaped_byte, escaped}
use Rattle.mt_frame.specs.Ends.{has_zero}
use Rattle.mt_frame.specs.Reading.{unescaped, with_byte}

pub escaped_cons : (b : ℕ) (bytes : List ℕ) → escaped (b ∷ bytes) ≡ escaped_byte b ++ escaped bytes
unfolding escaped
escaped_cons b bytes = flat_map-cons escaped_byte b bytes

pub unescaped_again : (bytes : List ℕ) → unescaped false (escaped bytes) ≡ Some bytes
unfolding unescaped escaped
unescaped_again [] = refl
unescaped_again (b ∷ bytes) =
    let more = unescaped_again bytes in
    let spelled = ap (unescaped false) (flat_map-cons escaped_byte b bytes) in
    elim (eqb_tells b 0) [
      | inl zero_byte ↦ spelled ∙ rw (zero_byte.1, more) refl
      | inr some_byte ↦ elim (eqb_tells b 1) [
        | inl one ↦ spelled ∙ rw (one.1, more) refl
        | inr other ↦ spelled ∙ rw (some_byte.0, other.0) (rw (some_byte.0, other.0) (rw more refl))
      ]
    ]

-- what a 1 before a text adds to it
abbrev led : Bool → List ℕ → List ℕ
led false text = text
led true text = 1 ∷ text

front_of : (b : ℕ) (read : Option (List ℕ)) (bytes : List ℕ) → with_byte b read ≡ Some bytes → (rest : List ℕ) × (read ≡ Some rest) × (bytes ≡ b ∷ rest)
front_of b None bytes e = absurd (cc)
front_of b (Some rest) bytes e = (rest, refl, cc)

spelled_byte : (b : ℕ) (text rest bytes : List ℕ) → text ≡ escaped rest → bytes ≡ b ∷ rest → escaped_byte b ++ text ≡ escaped bytes
spelled_byte b text rest bytes e k = ap (λ (t : List ℕ). escaped_byte b ++ t) e ∙ sym (escaped_cons b rest) ∙ ap escaped (sym k)

pub unescaped_takes : (is_escape : Bool) (text bytes : List ℕ) → unescaped is_escape text ≡ Some bytes → led is_escape text ≡ escaped bytes
unfolding unescaped escaped
unescaped_takes false [] bytes e = let k : [] ≡ bytes = cc in ap escaped k
unescaped_takes true [] bytes e = absurd (cc)
unescaped_takes false (b ∷ text) bytes e = elim (eqb_tells b 0) [
  | inl zero_byte ↦ let k : None ≡ Some bytes = sym (rw zero_byte.0 refl) ∙ e in absurd (cc)
  | inr some_byte ↦ elim (eqb_tells b 1) [
    | inl one ↦
        let k : unescaped true text ≡ Some bytes = sym (rw (some_byte.0, one.0) refl) ∙ e in
        ap (λ (n : ℕ). n ∷ text) one.1 ∙ unescaped_takes true text bytes k
    | inr other ↦
        let k : with_byte b (unescaped false text) ≡ Some bytes = sym (rw (some_byte.0, other.0) refl) ∙ e in
        let f = front_of b (unescaped false text) bytes k in
        let one_byte : escaped_byte b ≡ b ∷ [] = rw (some_byte.0, other.0) refl in
        ap (λ (l : List ℕ). l ++ text) (sym one_byte) ∙ spelled_byte b text f.0 bytes (unescaped_takes false text f.0 f.1) f.2
  ]
]
unescaped_takes true (b ∷ text) bytes e = elim (eqb_tells b 1) [
  | inl one ↦
      let k : with_byte 0 (unescaped false text) ≡ Some bytes = sym (rw one.0 refl) ∙ e in
      let f = front_of 0 (unescaped false text) bytes k in
      ap (λ (n : ℕ). 1 ∷ n ∷ text) one.1 ∙ spelled_byte 0 text f.0 bytes (unescaped_takes false text f.0 f.1) f.2
  | inr not_one ↦ elim (eqb_tells b 2) [
    | inl two ↦
        let k : with_byte 1 (unescaped false text) ≡ Some bytes = sym (rw (not_one.0, two.0) refl) ∙ e in
        let f = front_of 1 (unescaped false text) bytes k in
        ap (λ (n : ℕ). 1 ∷ n ∷ text) two.1 ∙ spelled_byte 1 text f.0 bytes (unescaped_takes false text f.0 f.1) f.2
    | inr other ↦ let k : None ≡ Some bytes = sym (rw (not_one.0, other.0) refl) ∙ e in absurd (cc)
  ]
]

no_zero_byte : (b : ℕ) → has_zero (escaped_byte b) ≡ false
no_zero_byte b = elim (eqb_tells b 0) [
  | inl zero_byte ↦ rw zero_byte.0 refl
  | inr some_byte ↦ elim (eqb_tells b 1) [ inl one ↦ rw (some_byte.0, one.0) refl | inr other ↦ rw (some_byte.0, other.0) (rw some_byte.0 refl) ]
]

pub escaped_clean : (bytes : List ℕ) → has_zero (escaped bytes) ≡ false
unfolding escaped
escaped_clean [] = refl
escaped_clean (b ∷ bytes) =
    ap has_zero (flat_map-cons escaped_byte b bytes) ∙ list_any-append (λ (byte : ℕ). byte == 0) (escaped_byte b) (escaped bytes)
    ∙ rw (no_zero_byte b, escaped_clean bytes) refl

one_byte_least : (b : ℕ) → 1 ≤ length (escaped_byte b)
one_byte_least b = elim (eqb_tells b 0) [
  | inl zero_byte ↦ rw zero_byte.0 (omega arith)
  | inr some_byte ↦ elim (eqb_tells b 1) [ inl one ↦ rw (some_byte.0, one.0) (omega arith) | inr other ↦ rw (some_byte.0, other.0) (omega arith) ]
]

pub escaped_longer : (bytes : List ℕ) → length bytes ≤ length (escaped bytes)
unfolding escaped
escaped_longer [] = omega arith
escaped_longer (b ∷ bytes) =
    let parts = ap length (flat_map-cons escaped_byte b bytes) ∙ length-append (escaped_byte b) (escaped bytes) in
    omega (arith, parts, one_byte_least b, escaped_longer bytes)
