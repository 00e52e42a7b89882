-- The order of places is total, and keeps under a prefix.
use Rattle.std.proofs.Common.{ℕ, ◌≡◌, ◌<◌, ◌≤◌, ◌⊎◌, ◌↔◌, inl, inr, List, [], ◌∷◌, cond, leb, refl, sym, ap, ◌∙◌, arith}
use Rattle.std.proofs.lemmas.Bool.{le-leb, lt-leb, cond-true, cond-false}
use Rattle.std.specs.declared.cmp.Ordering.{Ordering}
use Rattle.std.specs.declared.cmp.Ordering.TheVariants.{Less, Equal, Greater}
use Rattle.std.specs.Ordering.{nat_cmp, ordering_then, ordering_reverse}
use Rattle.std.specs.Cmp.{IsTotalOrder, nat_cmp_is}
use Rattle.mt_slice.specs.Place.{Place, last, deeper, under, Precedes, place_cmp}

-- No place comes before itself.
pub never : (x : Place) → Precedes x x → ⊥
never (last s k) (inl h) = omega arith
never (last s k) (inr h) = let g : k < k = h.1 in omega arith
never (deeper s x) (inl h) = absurd (let g : s < s = h in omega arith)
never (deeper s x) (inr h) = never x h.1

lex_again : {A B C : Type 0} (s t u : ℕ) → (A → B → C) → (s < t) ⊎ ((s ≡ t) × A) → (t < u) ⊎ ((t ≡ u) × B) → (s < u) ⊎ ((s ≡ u) × C)
lex_again s t u f (inl g) (inl h) = inl (omega arith)
lex_again s t u f (inl g) (inr h) = inl (let e : t ≡ u = h.0 in omega arith)
lex_again s t u f (inr g) (inl h) = inl (let e : s ≡ t = g.0 in omega arith)
lex_again s t u f (inr g) (inr h) = inr (g.0 ∙ h.0, f g.1 h.1)

pub precedes_again : (x y z : Place) → Precedes x y → Precedes y z → Precedes x z
precedes_again (last s i) (last t j) (last u k) g h = lex_again {A = i < j} {B = j < k} {C = i < k} s t u (λ a b. omega arith) g h
precedes_again (last s i) (last t j) (deeper u z) g h = lex_again {A = i < j} {B = j ≤ 9} {C = i ≤ 9} s t u (λ a b. omega arith) g h
precedes_again (last s i) (deeper t y) (last u k) g h = lex_again {A = i ≤ 9} {B = 9 < k} {C = i < k} s t u (λ a b. omega arith) g h
precedes_again (last s i) (deeper t y) (deeper u z) g h = lex_again {A = i ≤ 9} {B = Precedes y z} {C = i ≤ 9} s t u (λ a b. a) g h
precedes_again (deeper s x) (last t j) (last u k) g h = lex_again {A = 9 < j} {B = j < k} {C = 9 < k} s t u (λ a b. omega arith) g h
precedes_again (deeper s x) (last t j) (deeper u z) g h = lex_again {A = 9 < j} {B = j ≤ 9} {C = Precedes x z} s t u (λ a b. absurd (omega arith)) g h
precedes_again (deeper s x) (deeper t y) (last u k) g h = lex_again {A = Precedes x y} {B = 9 < k} {C = 9 < k} s t u (λ a b. b) g h
precedes_again (deeper s x) (deeper t y) (deeper u z) g h = lex_again {A = Precedes x y} {B = Precedes y z} {C = Precedes x z} s t u (precedes_again x y z) g h

pub sizes : (u v : ℕ) → (u < v) ⊎ ((u ≡ v) ⊎ (v < u))
sizes u v = grind arith

at_last : (s t i j : ℕ) → s ≡ t → i ≡ j → last s i ≡ last t j
at_last s t i j e f = cc

at_deeper : (s t : ℕ) (x y : Place) → s ≡ t → x ≡ y → deeper s x ≡ deeper t y
at_deeper s t x y e f = cc

lex_three : {A B : Type 0} (E : Type 0) (s t : ℕ) → (s ≡ t → A ⊎ (E ⊎ B)) → ((s < t) ⊎ ((s ≡ t) × A)) ⊎ (E ⊎ ((t < s) ⊎ ((t ≡ s) × B)))
lex_three {A} {B} E s t f = go (sizes s t)
  where
    put : s ≡ t → A ⊎ (E ⊎ B) → ((s < t) ⊎ ((s ≡ t) × A)) ⊎ (E ⊎ ((t < s) ⊎ ((t ≡ s) × B)))
    put e (inl a) = inl (inr (e, a))
    put e (inr (inl m)) = inr (inl m)
    put e (inr (inr b)) = inr (inr (inr (sym e, b)))

    go : (s < t) ⊎ ((s ≡ t) ⊎ (t < s)) → ((s < t) ⊎ ((s ≡ t) × A)) ⊎ (E ⊎ ((t < s) ⊎ ((t ≡ s) × B)))
    go (inl h) = inl (inl h)
    go (inr (inl e)) = put e (f e)
    go (inr (inr h)) = inr (inr (inl h))

-- Of two places one comes first, or they are the same.
pub three : (x y : Place) → Precedes x y ⊎ ((x ≡ y) ⊎ Precedes y x)
three (last s i) (last t j) = lex_three {A = i < j} {B = j < i} (last s i ≡ last t j) s t (λ e. go e (sizes i j))
  where
    go : s ≡ t → (i < j) ⊎ ((i ≡ j) ⊎ (j < i)) → (i < j) ⊎ ((last s i ≡ last t j) ⊎ (j < i))
    go e (inl h) = inl h
    go e (inr (inl f)) = inr (inl (at_last s t i j e f))
    go e (inr (inr h)) = inr (inr h)
three (last s i) (deeper t y) = lex_three {A = i ≤ 9} {B = 9 < i} (last s i ≡ deeper t y) s t (λ e. go (sizes i 10))
  where
    go : (i < 10) ⊎ ((i ≡ 10) ⊎ (10 < i)) → (i ≤ 9) ⊎ ((last s i ≡ deeper t y) ⊎ (9 < i))
    go (inl h) = inl (omega arith)
    go (inr (inl f)) = inr (inr (omega arith))
    go (inr (inr h)) = inr (inr (omega arith))
three (deeper s x) (last t j) = lex_three {A = 9 < j} {B = j ≤ 9} (deeper s x ≡ last t j) s t (λ e. go (sizes j 10))
  where
    go : (j < 10) ⊎ ((j ≡ 10) ⊎ (10 < j)) → (9 < j) ⊎ ((deeper s x ≡ last t j) ⊎ (j ≤ 9))
    go (inl h) = inr (inr (omega arith))
    go (inr (inl f)) = inl (omega arith)
    go (inr (inr h)) = inl (omega arith)
three (deeper s x) (deeper t y) = lex_three {A = Precedes x y} {B = Precedes y x} (deeper s x ≡ deeper t y) s t (λ e. three_deeper s t x y e (three x y))
  where
    three_deeper : (s t : ℕ) (x y : Place) → s ≡ t → Precedes x y ⊎ ((x ≡ y) ⊎ Precedes y x) → Precedes x y ⊎ ((deeper s x ≡ deeper t y) ⊎ Precedes y x)
    three_deeper s t x y e (inl h) = inl h
    three_deeper s t x y e (inr (inl f)) = inr (inl (at_deeper s t x y e f))
    three_deeper s t x y e (inr (inr h)) = inr (inr h)

-- The comparison

then_less : (s t : ℕ) (r : Ordering) → (s < t) ⊎ ((s ≡ t) × (r ≡ Less)) → ordering_then (nat_cmp s t) r ≡ Less
then_less s t r (inl h) = ap (λ (o : Ordering). ordering_then o r) (sym (nat_cmp_is s t Less h))
then_less s t r (inr h) = ap (λ (o : Ordering). ordering_then o r) (sym (nat_cmp_is s t Equal h.0)) ∙ h.1

then_greater : (s t : ℕ) (r : Ordering) → (t < s) ⊎ ((t ≡ s) × (r ≡ Greater)) → ordering_then (nat_cmp s t) r ≡ Greater
then_greater s t r (inl h) = ap (λ (o : Ordering). ordering_then o r) (sym (nat_cmp_is s t Greater h))
then_greater s t r (inr h) = ap (λ (o : Ordering). ordering_then o r) (sym (nat_cmp_is s t Equal (sym h.0))) ∙ h.1

-- the second part of a fact on two slices and what follows them
mapped : {A B : Type 0} (s t : ℕ) → (A → B) → (s < t) ⊎ ((s ≡ t) × A) → (s < t) ⊎ ((s ≡ t) × B)
mapped s t f (inl h) = inl h
mapped s t f (inr h) = inr (h.0, f h.1)

few : (k : ℕ) (r q : Ordering) → k ≤ 9 → cond (leb k 9) r q ≡ r
few k r q h = cond-true (leb k 9) r q (le-leb k 9 h)

many : (k : ℕ) (r q : Ordering) → 9 < k → cond (leb k 9) r q ≡ q
many k r q h = cond-false (leb k 9) r q (lt-leb k 9 h)

pub place_cmp-less : (x y : Place) → Precedes x y → place_cmp x y ≡ Less
place_cmp-less (last s k) (last t j) h = then_less s t (nat_cmp k j) (mapped s t (λ (g : k < j). sym (nat_cmp_is k j Less g)) h)
place_cmp-less (last s k) (deeper t y) h = then_less s t (cond (leb k 9) Less Greater) (mapped s t (λ (g : k ≤ 9). few k Less Greater g) h)
place_cmp-less (deeper s x) (last t j) h = then_less s t (cond (leb j 9) Greater Less) (mapped s t (λ (g : 9 < j). many j Greater Less g) h)
place_cmp-less (deeper s x) (deeper t y) h = then_less s t (place_cmp x y) (mapped s t (λ (g : Precedes x y). place_cmp-less x y g) h)

pub place_cmp-greater : (x y : Place) → Precedes y x → place_cmp x y ≡ Greater
place_cmp-greater (last s k) (last t j) h = then_greater s t (nat_cmp k j) (mapped t s (λ (g : j < k). sym (nat_cmp_is k j Greater g)) h)
place_cmp-greater (last s k) (deeper t y) h = then_greater s t (cond (leb k 9) Less Greater) (mapped t s (λ (g : 9 < k). many k Less Greater g) h)
place_cmp-greater (deeper s x) (last t j) h = then_greater s t (cond (leb j 9) Greater Less) (mapped t s (λ (g : j ≤ 9). few j Greater Less g) h)
place_cmp-greater (deeper s x) (deeper t y) h = then_greater s t (place_cmp x y) (mapped t s (λ (g : Precedes y x). place_cmp-greater x y g) h)

pub place_cmp-same : (x : Place) → place_cmp x x ≡ Equal
place_cmp-same (last s k) = ap (λ (o : Ordering). ordering_then o (nat_cmp k k)) (sym (nat_cmp_is s s Equal refl)) ∙ sym (nat_cmp_is k k Equal refl)
place_cmp-same (deeper s x) = ap (λ (o : Ordering). ordering_then o (place_cmp x x)) (sym (nat_cmp_is s s Equal refl)) ∙ place_cmp-same x

clash : {X : Type 0} (o p q : Ordering) → o ≡ p → o ≡ q → (p ≡ q → ⊥) → X
clash o p q e f h = absurd (h (sym e ∙ f))

pub place_cmp-Less : (x y : Place) → (place_cmp x y ≡ Less) ↔ Precedes x y
place_cmp-Less x y = (λ e. go e (three x y), place_cmp-less x y)
  where
    go : place_cmp x y ≡ Less → Precedes x y ⊎ ((x ≡ y) ⊎ Precedes y x) → Precedes x y
    go e (inl h) = h
    go e (inr (inl f)) = clash (place_cmp x y) Less Equal e (ap (place_cmp x) (sym f) ∙ place_cmp-same x) (λ g. cc)
    go e (inr (inr h)) = clash (place_cmp x y) Less Greater e (place_cmp-greater x y h) (λ g. cc)

pub place_cmp-Equal : (x y : Place) → (place_cmp x y ≡ Equal) ↔ (x ≡ y)
place_cmp-Equal x y = (λ e. go e (three x y), λ f. ap (place_cmp x) (sym f) ∙ place_cmp-same x)
  where
    go : place_cmp x y ≡ Equal → Precedes x y ⊎ ((x ≡ y) ⊎ Precedes y x) → x ≡ y
    go e (inl h) = clash (place_cmp x y) Equal Less e (place_cmp-less x y h) (λ g. cc)
    go e (inr (inl f)) = f
    go e (inr (inr h)) = clash (place_cmp x y) Equal Greater e (place_cmp-greater x y h) (λ g. cc)

antisymm : (x y : Place) → place_cmp x y ≡ ordering_reverse (place_cmp y x)
antisymm x y = go (three x y)
  where
    go : Precedes x y ⊎ ((x ≡ y) ⊎ Precedes y x) → place_cmp x y ≡ ordering_reverse (place_cmp y x)
    go (inl h) = place_cmp-less x y h ∙ ap ordering_reverse (sym (place_cmp-greater y x h))
    go (inr (inl e)) = (place_cmp-Equal x y).1 e ∙ ap ordering_reverse (sym ((place_cmp-Equal y x).1 (sym e)))
    go (inr (inr h)) = place_cmp-greater x y h ∙ ap ordering_reverse (sym (place_cmp-less y x h))

pub place_cmp_total : IsTotalOrder place_cmp
place_cmp_total = record {
  antisymm = antisymm;
  trans = λ x y z g h. place_cmp-less x z (precedes_again x y z ((place_cmp-Less x y).0 g) ((place_cmp-Less y z).0 h));
  congr = λ x y z e. ap (λ (w : Place). place_cmp w z) ((place_cmp-Equal x y).0 e);
}

-- Under a prefix

pub under_precedes : (p : List ℕ) (x y : Place) → Precedes x y → Precedes (under p x) (under p y)
under_precedes [] x y h = h
under_precedes (s ∷ p) x y h = under_precedes p (deeper s x) (deeper s y) (inr (refl, h))
