-- Pairs whose keys rise: a key that is among them is there once.
use Rattle.std.proofs.Common.{◌≡◌, ℕ, Bool, true, cond, ◌||◌, List, [], ◌∷◌, ap, sym, ◌∙◌, arith}
use Rattle.std.specs.Prelude.{count_by, Any}
use Rattle.std.specs.List.{list_any}
use Rattle.std.specs.Ordering.{is_eq, is_lt}
use Rattle.std.specs.declared.cmp.Ordering.{Ordering}
use Rattle.std.specs.declared.cmp.Ordering.TheVariants.{Less, Equal, Greater}
use Rattle.std.specs.Cmp.{first_so, second_so, tied_itself}
use Rattle.std.specs.FinMap.{is_sorted}
use Rattle.std.specs.FinMap.Entries.{below_all}
use Rattle.std.proofs.lemmas.Cmp.{nat_list_cmp_total}
use Rattle.std.proofs.lemmas.Bool.{false≢true, cases_Bool}
use Rattle.std.proofs.lemmas.List.Sums.{sum_by-cons}
use Rattle.std.proofs.lemmas.List.Folds.{list_any-from_Any}
use Rattle.std.proofs.Common.{refl, inl, inr}
use Rattle.mt_types.specs.Keys.{key_cmp}

-- the pair is of this key
abbrev pub is_of : {V : Type 0} → List ℕ → List ℕ × V → Bool
is_of key pair = is_eq (key_cmp key pair.0)

abbrev one_if : Bool → ℕ
one_if b = cond b 1 0

equal_of : (o : Ordering) → is_eq o ≡ true → o ≡ Equal
equal_of Less e = absurd (false≢true e)
equal_of Equal e = refl
equal_of Greater e = absurd (false≢true e)

less_of : (o : Ordering) → is_lt o ≡ true → o ≡ Less
less_of Less e = refl
less_of Equal e = absurd (false≢true e)
less_of Greater e = absurd (false≢true e)

-- no pair is of a key that is before all
none_of : {V : Type 0} (key k : List ℕ) → key_cmp key k ≡ Equal → (pairs : List (List ℕ × V)) → below_all key_cmp k pairs ≡ true → count_by (is_of key) pairs ≡ 0
none_of key k tie [] below = refl
none_of {V} key k tie (pair ∷ pairs) below =
    let above : key_cmp k pair.0 ≡ Less = less_of (key_cmp k pair.0) (first_so (is_lt (key_cmp k pair.0)) (below_all key_cmp k pairs) below) in
    let later = none_of key k tie pairs (second_so (is_lt (key_cmp k pair.0)) (below_all key_cmp k pairs) below) in
    let order : key_cmp key pair.0 ≡ Less = nat_list_cmp_total.congr key k pair.0 tie ∙ above in
    let here : one_if (is_of key pair) ≡ 0 = ap (λ (o : Ordering). one_if (is_eq o)) order in
    sum_by-cons (λ (p : List ℕ × V). one_if (is_of key p)) pair pairs ∙ omega (arith, here, later)

one_of : {V : Type 0} (key : List ℕ) (pairs : List (List ℕ × V)) → is_sorted key_cmp pairs ≡ true → list_any (is_of key) pairs ≡ true → count_by (is_of key) pairs ≡ 1
one_of key [] sorted any = absurd (false≢true any)
one_of {V} key (pair ∷ pairs) sorted any =
    let below = first_so (below_all key_cmp pair.0 pairs) (is_sorted key_cmp pairs) sorted in
    let rest = second_so (below_all key_cmp pair.0 pairs) (is_sorted key_cmp pairs) sorted in
    let split = sum_by-cons (λ (p : List ℕ × V). one_if (is_of key p)) pair pairs in
    elim (cases_Bool (is_of key pair)) [
      | inl here ↦
          let one : one_if (is_of key pair) ≡ 1 = ap (λ (b : Bool). one_if b) here in
          let later = none_of key pair.0 (equal_of (key_cmp key pair.0) here) pairs below in
          split ∙ omega (arith, one, later)
      | inr other ↦
          let zero : one_if (is_of key pair) ≡ 0 = ap (λ (b : Bool). one_if b) other in
          let among : list_any (is_of key) pairs ≡ true = sym (ap (λ (b : Bool). b || list_any (is_of key) pairs) other) ∙ any in
          let later = one_of key pairs rest among in
          split ∙ omega (arith, zero, later)
    ]

same_ties : (key k : List ℕ) → k ≡ key → is_eq (key_cmp key k) ≡ true
same_ties key k e = ap is_eq (ap (key_cmp key) e ∙ tied_itself nat_list_cmp_total key)

-- a key that is among pairs whose keys rise is there exactly once
pub given_once : {V : Type 0} (key : List ℕ) (pairs : List (List ℕ × V)) → is_sorted key_cmp pairs ≡ true → Any (λ pair. pair.0 ≡ key) pairs → count_by (is_of key) pairs ≡ 1
given_once key pairs rises any =
    let tied : Any (λ pair. is_of key pair ≡ true) pairs = (any.0, any.1, any.2, any.3, same_ties key any.1.0 any.4) in
    one_of key pairs rises (list_any-from_Any (is_of key) pairs tied)
