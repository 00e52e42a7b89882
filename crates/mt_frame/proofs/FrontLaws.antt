-- What is at the front of bytes, case by case.
use Rattle.std.proofs.Common.{◌≡◌, ℕ, ◌<◌, ◌≤◌, Bool, true, false, cond, List, length, drop, Option, Some, None, Ok, Err, refl, inl, inr, arith}
use Rattle.std.proofs.lemmas.Bool.{lt-ltb, le-ltb}
use Rattle.std.proofs.lemmas.Bool.Decides.{eqb_tells}
use Rattle.std.proofs.lemmas.List.{length-take}
use Rattle.mt_frame.specs.declared.limits.TheConstants.{LENGTH_BYTES}
use Rattle.mt_frame.specs.declared.fault.FrameFault.TheVariants as faults
use Rattle.mt_frame.specs.Ends.{has_zero, is_length, announced, length_part, text_part, ends}
use Rattle.mt_frame.specs.Faults.{front}

pub zero_in_length : (bytes : List ℕ) → has_zero (length_part bytes) ≡ true → front bytes ≡ Ok None
unfolding front ends
zero_in_length bytes z = rw z refl

short_is_no_length : (part : List ℕ) → length part < LENGTH_BYTES → is_length part ≡ false
short_is_no_length part short = elim (eqb_tells (length part) LENGTH_BYTES) [
  | inl same ↦ absurd (omega (arith, same.1, short))
  | inr apart ↦ rw apart.0 refl
]

pub too_short : (bytes : List ℕ) → has_zero (length_part bytes) ≡ false → length bytes < LENGTH_BYTES → front bytes ≡ Err faults.Cut
unfolding front ends
too_short bytes z short =
    let l = short_is_no_length (length_part bytes) (omega (arith, length-take LENGTH_BYTES bytes)) in
    rw (z, l, lt-ltb (length bytes) LENGTH_BYTES short) refl

pub no_length : (bytes : List ℕ) → has_zero (length_part bytes) ≡ false → LENGTH_BYTES ≤ length bytes → is_length (length_part bytes) ≡ false → front bytes ≡ Err faults.Length
unfolding front ends
no_length bytes z long l = rw (z, l, le-ltb (length bytes) LENGTH_BYTES long) refl

pub zero_in_text : (bytes : List ℕ) → has_zero (length_part bytes) ≡ false → is_length (length_part bytes) ≡ true → has_zero (text_part bytes) ≡ true → front bytes ≡ Ok None
unfolding front ends
zero_in_text bytes z l t = rw (z, l, t) refl

pub cut_in_text : (bytes : List ℕ) → has_zero (length_part bytes) ≡ false → LENGTH_BYTES ≤ length bytes → is_length (length_part bytes) ≡ true → has_zero (text_part bytes) ≡ false
    → length (drop LENGTH_BYTES bytes) < announced (length_part bytes) → front bytes ≡ Err faults.Cut
unfolding front ends
cut_in_text bytes z long l t short =
    rw (z, l, t, le-ltb (length bytes) LENGTH_BYTES long, lt-ltb (length (drop LENGTH_BYTES bytes)) (announced (length_part bytes)) short) refl

pub whole_text : (bytes : List ℕ) → has_zero (length_part bytes) ≡ false → LENGTH_BYTES ≤ length bytes → is_length (length_part bytes) ≡ true → has_zero (text_part bytes) ≡ false
    → announced (length_part bytes) ≤ length (drop LENGTH_BYTES bytes) → front bytes ≡ Ok (Some (announced (length_part bytes)))
unfolding front ends
whole_text bytes z long l t fits =
    rw (z, l, t, le-ltb (length bytes) LENGTH_BYTES long, le-ltb (length (drop LENGTH_BYTES bytes)) (announced (length_part bytes)) fits) refl

-- which way a choice went
pub chosen_none : (b : Bool) (x : ℕ) (r : Option ℕ) → r ≡ cond b (Some x) None → r ≡ None → b ≡ false
chosen_none true x r e n = absurd (cc)
chosen_none false x r e n = refl

pub chosen_some : (b : Bool) (x y : ℕ) (r : Option ℕ) → r ≡ cond b (Some x) None → r ≡ Some y → (b ≡ true) × (y ≡ x)
chosen_some true x y r e n = (refl, cc)
chosen_some false x y r e n = absurd (cc)
