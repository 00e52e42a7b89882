-- A list without repetition, all of whose elements stand in another list, is no longer than that list; one of numbers
-- below a bound is no longer than the bound.
use Rattle.std.proofs.Common.{ℕ, zero, suc, ◌≡◌, ◌≢◌, ◌<◌, ◌≤◌, ◌⊎◌, inl, inr, List, [], ◌∷◌, length, refl, subst, arith}
use Rattle.mt_chart.specs.Tree.{Among, first, later}
use Rattle.mt_chart.specs.Walk.{Distinct}
use Rattle.mt_chart.proofs.Entries.{among_first}
use Rattle.mt_chart.proofs.Basics.{same_number}

omit : {A : Type 0} (x : A) (ys : List A) → Among x ys → List A
omit x [] i = []
omit x (y ∷ ys) first = ys
omit x (y ∷ ys) (later i) = y ∷ omit x ys i

length_omit : {A : Type 0} (x : A) (ys : List A) (i : Among x ys) → length ys ≡ suc (length (omit x ys i))
unfolding omit
length_omit x [] i = elim i [ ]
length_omit x (y ∷ ys) first = omega arith
length_omit x (y ∷ ys) (later i) = let h : length ys ≡ suc (length (omit x ys i)) = length_omit x ys i in omega arith

still_among : {A : Type 0} (x z : A) (ys : List A) (i : Among x ys) → (z ≡ x → ⊥) → Among z ys → Among z (omit x ys i)
unfolding omit
still_among x z [] i h j = elim i [ ]
still_among x z (y ∷ ys) first h first = absurd (h refl)
still_among x z (y ∷ ys) first h (later j) = j
still_among x z (y ∷ ys) (later i) h first = first
still_among x z (y ∷ ys) (later i) h (later j) = later (still_among x z ys i h j)

pub no_longer : {A : Type 0} (xs ys : List A) → Distinct xs → ((x : A) → Among x xs → Among x ys) → length xs ≤ length ys
no_longer [] ys d h = omega arith
no_longer (x ∷ xs) ys d h =
    let i : Among x ys = h x first in
    let e : length ys ≡ suc (length (omit x ys i)) = length_omit x ys i in
    let k : length xs ≤ length (omit x ys i) = no_longer xs (omit x ys i) d.1 (λ z j. still_among x z ys i (λ q. d.0 (subst (λ w. Among w xs) q j)) (h z (later j))) in
    omega arith

numbers : ℕ → List ℕ
numbers zero = []
numbers (suc n) = n ∷ numbers n

length_numbers : (n : ℕ) → length (numbers n) ≡ n
unfolding numbers
length_numbers zero = refl
length_numbers (suc n) = let h : length (numbers n) ≡ n = length_numbers n in omega arith

among_numbers : (n m : ℕ) → m < n → Among m (numbers n)
unfolding numbers
among_numbers zero m h = absurd (omega arith)
among_numbers (suc n) m h = go (same_number m n) (among_numbers n m)
  where
    go : (m ≡ n) ⊎ (m ≢ n) → (m < n → Among m (numbers n)) → Among m (n ∷ numbers n)
    go (inl e) f = among_first m n (numbers n) e
    go (inr e) f = later (f (omega arith))

-- at most as many as there are numbers below the bound
pub at_most_bound : (bound : ℕ) (xs : List ℕ) → Distinct xs → ((x : ℕ) → Among x xs → x < bound) → length xs ≤ bound
at_most_bound bound xs d h =
    let k : length xs ≤ length (numbers bound) = no_longer xs (numbers bound) d (λ x i. among_numbers bound x (h x i)) in
    let e : length (numbers bound) ≡ bound = length_numbers bound in
    omega arith
