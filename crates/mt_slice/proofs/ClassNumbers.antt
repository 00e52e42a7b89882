-- The classes of a slice and their numbers.
use Rattle.std.proofs.Common.{ℕ, ◌≡◌, ◌<◌, ◌⊎◌, inl, inr, true, false, leb, refl, sym, ap, subst, ◌∙◌, arith}
use Rattle.std.proofs.lemmas.Bool.{leb-true, leb-false, cond-true, cond-false, cases_Bool}
use Rattle.mt_slice.specs.Classes.{IsClass, class_number, class_of}
use Rattle.mt_slice.specs.declared.slice_class.Class.{Class}
use Rattle.mt_slice.specs.declared.slice_class.Class.TheVariants.{Len, Long}

pub class_number-below : (c : Class) → IsClass c → class_number c < 10
class_number-below (Len k) h = omega arith
class_number-below Long h = omega arith

pub same_from_class_number : (c d : Class) → IsClass c → IsClass d → class_number c ≡ class_number d → c ≡ d
same_from_class_number (Len k) (Len j) h g e = ap Len e
same_from_class_number (Len k) Long h g e = absurd (omega arith)
same_from_class_number Long (Len j) h g e = absurd (omega arith)
same_from_class_number Long Long h g e = refl

-- What a class says of the number of bytes.
pub class_of-Long : (n : ℕ) → class_of n ≡ Long → 8 < n
class_of-Long n e = go (cases_Bool (leb n 8))
  where
    go : (leb n 8 ≡ true) ⊎ (leb n 8 ≡ false) → 8 < n
    go (inl h) = absurd (let f : Len n ≡ Long = sym (cond-true (leb n 8) (Len n) Long h) ∙ e in cc)
    go (inr h) = leb-false n 8 h

pub IsClass-class_of : (n : ℕ) → IsClass (class_of n)
IsClass-class_of n = go (cases_Bool (leb n 8))
  where
    go : (leb n 8 ≡ true) ⊎ (leb n 8 ≡ false) → IsClass (class_of n)
    go (inl h) = subst IsClass (sym (cond-true (leb n 8) (Len n) Long h)) (leb-true n 8 h)
    go (inr h) = subst IsClass (sym (cond-false (leb n 8) (Len n) Long h)) tt
