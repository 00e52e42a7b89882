-- A word and its version give each other back.
use Rattle.std.proofs.Common.{◌≡◌, ◌==◌, inl, inr, ℕ, ◌+◌, ◌*◌, ◌/◌, ◌%◌, ◌^◌, ◌<◌, refl, sym, arith}
use Rattle.std.proofs.lemmas.Bool.Decides.{eqb_tells}
use Rattle.std.proofs.lemmas.Nat.{shr-shr}
use Rattle.mt_word.specs.Version.{number_of, word_of_version, version_of_word, IsVersionWord}

-- a number below 2 is that of its test
number_of_test : (n : ℕ) → n < 2 → number_of (n == 1) ≡ n
number_of_test n h =
    elim (eqb_tells n 1) [
      | inl p ↦ rw p.0 (sym p.1)
      | inr p ↦ rw p.0 (omega (arith, p.1))
    ]

-- the parts of a word, each by a shift of the one before
parts_together : (w a b c d e f g : ℕ) → a ≡ w / 2 → b ≡ a / 2 → c ≡ b / 2 → d ≡ c / 2 → e ≡ d / 2 → f ≡ e / 8
    → g ≡ f / 2 ^ 56 → e % 8 ≡ 0 →
    w % 2 + 2 * (a % 2) + 4 * (b % 2) + 8 * (c % 2) + 16 * (d % 2) + 2 ^ 8 * (f % 2 ^ 56) + 2 ^ 64 * g ≡ w
parts_together w a b c d e f g p q r s t u v h = omega arith

pub word_of_version-version_of_word : (w : ℕ) → IsVersionWord w → word_of_version (version_of_word w) ≡ w
word_of_version-version_of_word w h =
    rw (
      number_of_test (w / 2 ^ 0 % 2) (omega arith),
      number_of_test (w / 2 ^ 1 % 2) (omega arith),
      number_of_test (w / 2 ^ 2 % 2) (omega arith),
      number_of_test (w / 2 ^ 3 % 2) (omega arith),
      number_of_test (w / 2 ^ 4 % 2) (omega arith),
    )
    (omega (
      arith,
      h.spare,
      parts_together w (w / 2) (w / 2 ^ 2) (w / 2 ^ 3) (w / 2 ^ 4) (w / 2 ^ 5) (w / 2 ^ 8) (w / 2 ^ 64)
          refl (sym (shr-shr w 1 1)) (sym (shr-shr w 2 1)) (sym (shr-shr w 3 1)) (sym (shr-shr w 4 1))
          (sym (shr-shr w 5 3)) (sym (shr-shr w 8 56)) h.spare,
    ))
