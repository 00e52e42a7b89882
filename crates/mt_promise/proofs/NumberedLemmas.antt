-- Lists of things that have numbers: what a search by number finds after a change of the list.
use Rattle.std.proofs.Common.{◌≡◌, ℕ, ◌==◌, not, List, [], ◌∷◌, ◌++◌, map, Some, None, ◌∙◌, ap, sym, subst, refl, inl, inr, ◌⊎◌}
use Rattle.std.specs.Prelude.{find, filter}
use Rattle.std.proofs.lemmas.Bool.Decides.{eqb_tells}

-- what is found has the number
pub found : {X : Type 0} (num : X → ℕ) (n : ℕ) (xs : List X) (y : X) → find (λ x. num x == n) xs ≡ Some y → num y ≡ n
found num n [] y e = cc
found num n (x ∷ xs) y e =
    elim (eqb_tells (num x) n) [
      | inl p ↦ let here = rw p.0 at e in let same : x ≡ y = cc in ap num (sym same) ∙ p.1
      | inr p ↦ found num n xs y (rw p.0 at e)
    ]

-- nothing is found that was left out
pub left_out : {X : Type 0} (num : X → ℕ) (n : ℕ) (xs : List X) → find (λ x. num x == n) (filter (λ x. not (num x == n)) xs) ≡ None
left_out num n [] = refl
left_out num n (x ∷ xs) =
    elim (eqb_tells (num x) n) [
      | inl p ↦ rw p.0 (left_out num n xs)
      | inr p ↦ rw p.0 (rw p.0 (left_out num n xs))
    ]

-- what is found once others were left out was found before
pub found_before_filter : {X : Type 0} (num : X → ℕ) (k n : ℕ) (xs : List X) (y : X)
    → find (λ x. num x == n) (filter (λ x. not (num x == k)) xs) ≡ Some y → find (λ x. num x == n) xs ≡ Some y
found_before_filter num k n [] y e = e
found_before_filter num k n (x ∷ xs) y e =
    elim (eqb_tells (num x) k) [
      | inl p ↦ let rest = rw p.0 at e in elim (eqb_tells (num x) n) [
        | inl q ↦ let none = left_out num k xs in let same : k ≡ n = sym p.1 ∙ q.1 in
            let gone = subst (λ (m : ℕ). find (λ x. num x == m) (filter (λ x. not (num x == k)) xs) ≡ None) same none in cc
        | inr q ↦ rw q.0 (found_before_filter num k n xs y rest)
      ]
      | inr p ↦ let rest = rw p.0 at e in elim (eqb_tells (num x) n) [
        | inl q ↦ let here = rw q.0 at rest in rw q.0 here
        | inr q ↦ let later = rw q.0 at rest in rw q.0 (found_before_filter num k n xs y later)
      ]
    ]

-- what is found in a list changed item by item, number for number, is the change of what was found
pub found_before_map : {X : Type 0} (num : X → ℕ) (f : X → X) → ((x : X) → num (f x) ≡ num x) → (n : ℕ) (xs : List X) (y : X)
    → find (λ x. num x == n) (map f xs) ≡ Some y → (old : X) × (find (λ x. num x == n) xs ≡ Some old) × (y ≡ f old)
found_before_map num f same n [] y e = cc
found_before_map num f same n (x ∷ xs) y e =
    elim (eqb_tells (num x) n) [
      | inl p ↦ let here = rw p.0 at (rw (same x) at e) in let is : y ≡ f x = cc in (x, rw p.0, is)
      | inr p ↦ let later = rw p.0 at (rw (same x) at e) in let r = found_before_map num f same n xs y later in (r.0, rw p.0 r.1, r.2)
    ]

-- what is found in a longer list was found before, or is what was added
pub found_before_append : {X : Type 0} (num : X → ℕ) (n : ℕ) (xs : List X) (z y : X)
    → find (λ x. num x == n) (xs ++ z ∷ []) ≡ Some y → (find (λ x. num x == n) xs ≡ Some y) ⊎ ((y ≡ z) × (num z ≡ n))
found_before_append num n [] z y e =
    elim (eqb_tells (num z) n) [
      | inl p ↦ let here = rw p.0 at e in let same : y ≡ z = cc in inr (same, p.1)
      | inr p ↦ let later = rw p.0 at e in cc
    ]
found_before_append num n (x ∷ xs) z y e =
    elim (eqb_tells (num x) n) [
      | inl p ↦ inl (rw p.0 (rw p.0 at e))
      | inr p ↦ let later = rw p.0 at e in elim (found_before_append num n xs z y later) [ inl q ↦ inl (rw p.0 q) | inr q ↦ inr q ]
    ]
