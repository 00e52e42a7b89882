-- The order of places is total, keeps under a prefix, and a layer's places stand together in it.
use Rattle.std.proofs.Common.{ℕ, ◌≡◌, ◌<◌, ◌≤◌, ◌⊎◌, inl, inr, List, [], ◌∷◌, refl, sym, ap, subst, arith}
use Rattle.mt_slice.specs.Place.{Place, last, deeper, under, Precedes, first_slice}
use Rattle.mt_chart.specs.Scan.{AtMost}
use Rattle.mt_slice.proofs.PlaceOrder.{never, precedes_again, sizes, three, under_precedes}

at_last : (s t i j : ℕ) → s ≡ t → i ≡ j → last s i ≡ last t j
at_last s t i j e f = cc

-- either x comes before y, or y is at most x
pub either : (x y : Place) → Precedes x y ⊎ AtMost y x
either x y = go (three x y)
  where
    go : Precedes x y ⊎ ((x ≡ y) ⊎ Precedes y x) → Precedes x y ⊎ AtMost y x
    go (inl h) = inl h
    go (inr (inl e)) = inr (inl (sym e))
    go (inr (inr h)) = inr (inr h)

pub most_then : (x y z : Place) → AtMost x y → Precedes y z → Precedes x z
most_then x y z (inl e) h = subst (λ (w : Place). Precedes w z) (sym e) h
most_then x y z (inr g) h = precedes_again x y z g h

pub then_most : (x y z : Place) → Precedes x y → AtMost y z → Precedes x z
then_most x y z g (inl e) = subst (λ (w : Place). Precedes x w) e g
then_most x y z g (inr h) = precedes_again x y z g h

pub most_again : (x y z : Place) → AtMost x y → AtMost y z → AtMost x z
most_again x y z (inl e) h = subst (λ (w : Place). AtMost w z) (sym e) h
most_again x y z (inr g) h = inr (then_most x y z g h)

pub not_both : (x y : Place) → AtMost x y → Precedes y x → ⊥
not_both x y g h = never x (most_then x y x g h)

pub under_most : (p : List ℕ) (x y : Place) → AtMost x y → AtMost (under p x) (under p y)
under_most p x y (inl e) = inl (ap (under p) e)
under_most p x y (inr h) = inr (under_precedes p x y h)

pub under_back : (p : List ℕ) (x y : Place) → Precedes (under p x) (under p y) → Precedes x y
under_back p x y h = go (either x y)
  where
    go : Precedes x y ⊎ AtMost y x → Precedes x y
    go (inl g) = g
    go (inr g) = absurd (not_both (under p y) (under p x) (under_most p y x g) h)

-- what is no place of a layer comes before all of it or after all of it
pub outside : (p : List ℕ) (key : Place) → ((x : Place) × (key ≡ under p x)) ⊎ (((y : Place) → Precedes key (under p y)) ⊎ ((y : Place) → Precedes (under p y) key))
outside [] key = inl (key, refl)
outside (s ∷ p) key = go (outside p key)
  where
    before : (x : Place) → key ≡ under p x → ((y : Place) → Precedes x (deeper s y)) → (y : Place) → Precedes key (under p (deeper s y))
    before x e h y = subst (λ (w : Place). Precedes w (under p (deeper s y))) (sym e) (under_precedes p x (deeper s y) (h y))

    after : (x : Place) → key ≡ under p x → ((y : Place) → Precedes (deeper s y) x) → (y : Place) → Precedes (under p (deeper s y)) key
    after x e h y = subst (λ (w : Place). Precedes (under p (deeper s y)) w) (sym e) (under_precedes p (deeper s y) x (h y))

    at_end : (t k : ℕ) → key ≡ under p (last t k) → (t < s) ⊎ ((t ≡ s) ⊎ (s < t)) → (k < 10) ⊎ ((k ≡ 10) ⊎ (10 < k)) →
        ((x : Place) × (key ≡ under p (deeper s x))) ⊎ (((y : Place) → Precedes key (under p (deeper s y))) ⊎ ((y : Place) → Precedes (under p (deeper s y)) key))
    at_end t k e (inl h) c = inr (inl (before (last t k) e (λ y. inl h)))
    at_end t k e (inr (inl h)) (inl c) = inr (inl (before (last t k) e (λ y. inr (h, omega arith))))
    at_end t k e (inr (inl h)) (inr (inl c)) = inr (inr (after (last t k) e (λ y. inr (sym h, omega arith))))
    at_end t k e (inr (inl h)) (inr (inr c)) = inr (inr (after (last t k) e (λ y. inr (sym h, omega arith))))
    at_end t k e (inr (inr h)) c = inr (inr (after (last t k) e (λ y. inl h)))

    deep : (t : ℕ) (x : Place) → key ≡ under p (deeper t x) → (t < s) ⊎ ((t ≡ s) ⊎ (s < t)) →
        ((x : Place) × (key ≡ under p (deeper s x))) ⊎ (((y : Place) → Precedes key (under p (deeper s y))) ⊎ ((y : Place) → Precedes (under p (deeper s y)) key))
    deep t x e (inl h) = inr (inl (before (deeper t x) e (λ y. inl h)))
    deep t x e (inr (inl h)) = inl (x, subst (λ (w : ℕ). key ≡ under p (deeper w x)) h e)
    deep t x e (inr (inr h)) = inr (inr (after (deeper t x) e (λ y. inl h)))

    inside : (x : Place) → key ≡ under p x → ((x : Place) × (key ≡ under p (deeper s x))) ⊎ (((y : Place) → Precedes key (under p (deeper s y))) ⊎ ((y : Place) → Precedes (under p (deeper s y)) key))
    inside (last t k) e = at_end t k e (sizes t s) (sizes k 10)
    inside (deeper t x) e = deep t x e (sizes t s)

    go : ((x : Place) × (key ≡ under p x)) ⊎ (((y : Place) → Precedes key (under p y)) ⊎ ((y : Place) → Precedes (under p y) key)) →
        ((x : Place) × (key ≡ under p (deeper s x))) ⊎ (((y : Place) → Precedes key (under p (deeper s y))) ⊎ ((y : Place) → Precedes (under p (deeper s y)) key))
    go (inl (x, e)) = inside x e
    go (inr (inl h)) = inr (inl (λ y. h (deeper s y)))
    go (inr (inr h)) = inr (inr (λ y. h (deeper s y)))

-- the first place of a layer
pub least : (y : Place) → AtMost (last 0 0) y
least (last t j) = go (sizes 0 t) (sizes 0 j)
  where
    go : (0 < t) ⊎ ((0 ≡ t) ⊎ (t < 0)) → (0 < j) ⊎ ((0 ≡ j) ⊎ (j < 0)) → AtMost (last 0 0) (last t j)
    go (inl h) c = inr (inl h)
    go (inr (inl h)) (inl c) = inr (inr (h, c))
    go (inr (inl h)) (inr (inl c)) = inl (at_last 0 t 0 j h c)
    go (inr (inl h)) (inr (inr c)) = absurd (omega arith)
    go (inr (inr h)) c = absurd (omega arith)
least (deeper t w) = go (sizes 0 t)
  where
    go : (0 < t) ⊎ ((0 ≡ t) ⊎ (t < 0)) → AtMost (last 0 0) (deeper t w)
    go (inl h) = inr (inl h)
    go (inr (inl h)) = inr (inr (h, omega arith))
    go (inr (inr h)) = absurd (omega arith)

pub slices_rise : (x y : Place) → AtMost x y → first_slice x ≤ first_slice y
slices_rise x y (inl e) = let k : first_slice x ≡ first_slice y = ap first_slice e in omega arith
slices_rise x y (inr h) = go x y h
  where
    lex : {A : Type 0} (s t : ℕ) → (s < t) ⊎ ((s ≡ t) × A) → s ≤ t
    lex s t (inl h) = omega arith
    lex s t (inr h) = let e : s ≡ t = h.0 in omega arith

    go : (x y : Place) → Precedes x y → first_slice x ≤ first_slice y
    go (last s i) (last t j) h = lex {A = i < j} s t h
    go (last s i) (deeper t y) h = lex {A = i ≤ 9} s t h
    go (deeper s x) (last t j) h = lex {A = 9 < j} s t h
    go (deeper s x) (deeper t y) h = lex {A = Precedes x y} s t h

-- what comes after all that is deeper at a slice is at or after `last s 10`
pub after_layer : (s : ℕ) (x : Place) → ((y : Place) → Precedes (deeper s y) x) → AtMost (last s 10) x
after_layer s (last t j) h = go (h (last 0 0)) (sizes 10 j)
  where
    go : (s < t) ⊎ ((s ≡ t) × (9 < j)) → (10 < j) ⊎ ((10 ≡ j) ⊎ (j < 10)) → AtMost (last s 10) (last t j)
    go (inl g) c = inr (inl g)
    go (inr g) (inl c) = inr (inr (g.0, c))
    go (inr g) (inr (inl c)) = inl (at_last s t 10 j g.0 c)
    go (inr g) (inr (inr c)) = absurd (let k : 9 < j = g.1 in omega arith)
after_layer s (deeper t w) h = go (h w)
  where
    go : (s < t) ⊎ ((s ≡ t) × Precedes w w) → AtMost (last s 10) (deeper t w)
    go (inl g) = inr (inl g)
    go (inr g) = absurd (never w g.1)
