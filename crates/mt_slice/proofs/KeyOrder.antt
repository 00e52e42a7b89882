-- Places are in the order of their keys.
use Rattle.std.proofs.Common.{ℕ, zero, suc, ◌≡◌, ◌<◌, ◌≤◌, ◌+◌, ◌-◌, ◌*◌, ◌⊎◌, ◌↔◌, inl, inr, List, [], ◌∷◌, refl, sym, ap, subst, ◌∙◌, arith}
use Rattle.std.specs.declared.cmp.Ordering.{Ordering}
use Rattle.std.specs.declared.cmp.Ordering.TheVariants.{Less, Equal, Greater}
use Rattle.std.specs.Ordering.{ordering_then}
use Rattle.std.specs.Cmp.{nat_cmp_is}
use Rattle.mt_types.specs.Keys.{key_cmp}
use Rattle.mt_slice.specs.Place.{Place, last, deeper, first_slice, first_class, Precedes, place_cmp, AreBytes, place_of}
use Rattle.mt_slice.proofs.PlaceOn.{scale, place_on, place_of-place_on}
use Rattle.mt_slice.proofs.PlaceOrder.{never, precedes_again, sizes, place_cmp-less, place_cmp-greater, place_cmp-same}

-- the order of keys, byte by byte
abbrev pub KeyLess : List ℕ → List ℕ → Type 0
KeyLess ks [] = ⊥
KeyLess [] (l ∷ ls) = Unit {0}
KeyLess (k ∷ ks) (l ∷ ls) = (k < l) ⊎ ((k ≡ l) × KeyLess ks ls)

-- by the slice, or then by the class
by_class : (x y : Place) → (first_slice x < first_slice y) ⊎ ((first_slice x ≡ first_slice y) × (first_class x < first_class y)) → Precedes x y
by_class (last s k) (last t j) h = h
by_class (last s k) (deeper t y) (inl h) = inl h
by_class (last s k) (deeper t y) (inr h) = inr (h.0, let g : k < 9 = h.1 in omega arith)
by_class (deeper s x) (last t j) h = h
by_class (deeper s x) (deeper t y) (inl h) = inl h
by_class (deeper s x) (deeper t y) (inr h) = absurd (let g : 9 < 9 = h.1 in omega arith)

scale_rises : (m v w : ℕ) → v < w → scale m v < scale m w
scale_rises zero v w h = h
scale_rises (suc m) v w h = scale_rises m (v * 256) (w * 256) (omega arith)

scale_most : (m v w : ℕ) → v ≤ w → scale m v ≤ scale m w
scale_most zero v w h = h
scale_most (suc m) v w h = scale_most m (v * 256) (w * 256) (omega arith)

low_end : (m v : ℕ) (ks : List ℕ) → scale m v ≤ first_slice (place_on m v ks)
low_end m v [] = omega arith
low_end zero v (k ∷ ks) = omega arith
low_end (suc m) v (k ∷ ks) =
    let g : scale m (v * 256) ≤ scale m (v * 256 + k) = scale_most m (v * 256) (v * 256 + k) (omega arith) in
    let h : scale m (v * 256 + k) ≤ first_slice (place_on m (v * 256 + k) ks) = low_end m (v * 256 + k) ks in omega arith

high_end : (m v : ℕ) (ks : List ℕ) → AreBytes ks → first_slice (place_on m v ks) < scale m (v + 1)
high_end m v [] b = scale_rises m v (v + 1) (omega arith)
high_end zero v (k ∷ ks) b = omega arith
high_end (suc m) v (k ∷ ks) b =
    let c : k < 256 = b.0 in
    let g : scale m (v * 256 + k + 1) ≤ scale m ((v + 1) * 256) = scale_most m (v * 256 + k + 1) ((v + 1) * 256) (omega arith) in
    let h : first_slice (place_on m (v * 256 + k) ks) < scale m (v * 256 + k + 1) = high_end m (v * 256 + k) ks b.1 in omega arith

-- after a smaller number comes a smaller slice
apart : (m v w : ℕ) (ks ls : List ℕ) → AreBytes ks → v < w → first_slice (place_on m v ks) < first_slice (place_on m w ls)
apart m v w ks ls b h =
    let f : first_slice (place_on m v ks) < scale m (v + 1) = high_end m v ks b in
    let g : scale m (v + 1) ≤ scale m w = scale_most m (v + 1) w (omega arith) in
    let e : scale m w ≤ first_slice (place_on m w ls) = low_end m w ls in omega arith

class_at : (m v : ℕ) (ks : List ℕ) → 8 - m ≤ first_class (place_on m v ks)
class_at m v [] = omega arith
class_at zero v (k ∷ ks) = omega arith
class_at (suc m) v (k ∷ ks) = let h : 8 - m ≤ first_class (place_on m (v * 256 + k) ks) = class_at m (v * 256 + k) ks in omega arith

places_rise : (m v : ℕ) (ks ls : List ℕ) → m ≤ 8 → AreBytes ks → AreBytes ls → KeyLess ks ls → Precedes (place_on m v ks) (place_on m v ls)
places_rise m v [] [] le b c h = elim h [ ]
places_rise m v (k ∷ ks) [] le b c h = elim h [ ]
places_rise zero v [] (l ∷ ls) le b c h = inr (refl, omega arith)
places_rise (suc m) v [] (l ∷ ls) le b c h = by_class (last (scale m (v * 256)) (8 - suc m)) (place_on m (v * 256 + l) ls) (go (sizes (scale m (v * 256)) (first_slice (place_on m (v * 256 + l) ls))))
  where
    at_least : scale m (v * 256) ≤ first_slice (place_on m (v * 256 + l) ls)
    at_least = let g : scale m (v * 256) ≤ scale m (v * 256 + l) = scale_most m (v * 256) (v * 256 + l) (omega arith) in
        let h : scale m (v * 256 + l) ≤ first_slice (place_on m (v * 256 + l) ls) = low_end m (v * 256 + l) ls in omega arith

    more : 8 - suc m < first_class (place_on m (v * 256 + l) ls)
    more = let h : 8 - m ≤ first_class (place_on m (v * 256 + l) ls) = class_at m (v * 256 + l) ls in let k : suc m ≤ 8 = le in omega arith

    go : (scale m (v * 256) < first_slice (place_on m (v * 256 + l) ls)) ⊎ ((scale m (v * 256) ≡ first_slice (place_on m (v * 256 + l) ls)) ⊎ (first_slice (place_on m (v * 256 + l) ls) < scale m (v * 256))) →
        (scale m (v * 256) < first_slice (place_on m (v * 256 + l) ls)) ⊎ ((scale m (v * 256) ≡ first_slice (place_on m (v * 256 + l) ls)) × (8 - suc m < first_class (place_on m (v * 256 + l) ls)))
    go (inl g) = inl g
    go (inr (inl e)) = inr (e, more)
    go (inr (inr g)) = absurd (let h = at_least in omega arith)
places_rise zero v (k ∷ ks) (l ∷ ls) le b c (inl h) = inr (refl, by_class (place_on 7 k ks) (place_on 7 l ls) (inl (apart 7 k l ks ls b.1 h)))
places_rise zero v (k ∷ ks) (l ∷ ls) le b c (inr h) = inr (refl, subst (λ (w : ℕ). Precedes (place_on 7 k ks) (place_on 7 w ls)) h.0 (places_rise 7 k ks ls (omega arith) b.1 c.1 h.1))
places_rise (suc m) v (k ∷ ks) (l ∷ ls) le b c (inl h) = by_class (place_on m (v * 256 + k) ks) (place_on m (v * 256 + l) ls) (inl (apart m (v * 256 + k) (v * 256 + l) ks ls b.1 (omega arith)))
places_rise (suc m) v (k ∷ ks) (l ∷ ls) le b c (inr h) =
    subst (λ (w : ℕ). Precedes (place_on m (v * 256 + k) ks) (place_on m (v * 256 + w) ls)) h.0 (places_rise m (v * 256 + k) ks ls (omega arith) b.1 c.1 h.1)

pub key_three : (ks ls : List ℕ) → KeyLess ks ls ⊎ ((ks ≡ ls) ⊎ KeyLess ls ks)
key_three [] [] = inr (inl refl)
key_three [] (l ∷ ls) = inl tt
key_three (k ∷ ks) [] = inr (inr tt)
key_three (k ∷ ks) (l ∷ ls) = go (sizes k l) (key_three ks ls)
  where
    same : k ≡ l → ks ≡ ls → ◌≡◌ {A = List ℕ} (k ∷ ks) (l ∷ ls)
    same e f = cc

    go : (k < l) ⊎ ((k ≡ l) ⊎ (l < k)) → KeyLess ks ls ⊎ ((ks ≡ ls) ⊎ KeyLess ls ks) → ((k < l) ⊎ ((k ≡ l) × KeyLess ks ls)) ⊎ ((◌≡◌ {A = List ℕ} (k ∷ ks) (l ∷ ls)) ⊎ ((l < k) ⊎ ((l ≡ k) × KeyLess ls ks)))
    go (inl h) r = inl (inl h)
    go (inr (inl e)) (inl h) = inl (inr (e, h))
    go (inr (inl e)) (inr (inl f)) = inr (inl (same e f))
    go (inr (inl e)) (inr (inr h)) = inr (inr (inr (sym e, h)))
    go (inr (inr h)) r = inr (inr (inl h))

-- The same order in the words of the comparison of keys.
pub cmp_less : (ks ls : List ℕ) → KeyLess ks ls → key_cmp ks ls ≡ Less
cmp_less [] [] h = elim h [ ]
cmp_less [] (l ∷ ls) h = refl
cmp_less (k ∷ ks) [] h = elim h [ ]
cmp_less (k ∷ ks) (l ∷ ls) (inl h) = ap (λ (r : Ordering). ordering_then r (key_cmp ks ls)) (sym (nat_cmp_is k l Less h))
cmp_less (k ∷ ks) (l ∷ ls) (inr h) = ap (λ (r : Ordering). ordering_then r (key_cmp ks ls)) (sym (nat_cmp_is k l Equal h.0)) ∙ cmp_less ks ls h.1

pub cmp_greater : (ks ls : List ℕ) → KeyLess ls ks → key_cmp ks ls ≡ Greater
cmp_greater [] [] h = elim h [ ]
cmp_greater [] (l ∷ ls) h = elim h [ ]
cmp_greater (k ∷ ks) [] h = refl
cmp_greater (k ∷ ks) (l ∷ ls) (inl h) = ap (λ (r : Ordering). ordering_then r (key_cmp ks ls)) (sym (nat_cmp_is k l Greater h))
cmp_greater (k ∷ ks) (l ∷ ls) (inr h) = ap (λ (r : Ordering). ordering_then r (key_cmp ks ls)) (sym (nat_cmp_is k l Equal (sym h.0))) ∙ cmp_greater ks ls h.1

pub cmp_equal : (ks : List ℕ) → key_cmp ks ks ≡ Equal
cmp_equal [] = refl
cmp_equal (k ∷ ks) = ap (λ (r : Ordering). ordering_then r (key_cmp ks ks)) (sym (nat_cmp_is k k Equal refl)) ∙ cmp_equal ks

pub rises : (ks ls : List ℕ) → AreBytes ks → AreBytes ls → KeyLess ks ls → Precedes (place_of ks) (place_of ls)
rises ks ls b c h = rw (place_of-place_on ks, place_of-place_on ls) (places_rise 8 0 ks ls (omega arith) b c h)

-- Places compare as their keys do.
pub place_cmp-place_of : (ks ls : List ℕ) → AreBytes ks → AreBytes ls → place_cmp (place_of ks) (place_of ls) ≡ key_cmp ks ls
place_cmp-place_of ks ls b c = go (key_three ks ls)
  where
    go : KeyLess ks ls ⊎ ((ks ≡ ls) ⊎ KeyLess ls ks) → place_cmp (place_of ks) (place_of ls) ≡ key_cmp ks ls
    go (inl h) = place_cmp-less (place_of ks) (place_of ls) (rises ks ls b c h) ∙ sym (cmp_less ks ls h)
    go (inr (inl e)) =
        ap (λ (w : List ℕ). place_cmp (place_of ks) (place_of w)) (sym e) ∙ place_cmp-same (place_of ks)
        ∙ sym (cmp_equal ks) ∙ ap (key_cmp ks) e
    go (inr (inr h)) = place_cmp-greater (place_of ks) (place_of ls) (rises ls ks c b h) ∙ sym (cmp_greater ks ls h)

-- One key is before another if its place is.
pub place_order : (ks ls : List ℕ) → AreBytes ks → AreBytes ls → KeyLess ks ls ↔ Precedes (place_of ks) (place_of ls)
place_order ks ls b c = (rises ks ls b c, λ h. go h (key_three ks ls))
  where
    go : Precedes (place_of ks) (place_of ls) → KeyLess ks ls ⊎ ((ks ≡ ls) ⊎ KeyLess ls ks) → KeyLess ks ls
    go h (inl g) = g
    go h (inr (inl e)) = absurd (never (place_of ls) (subst (λ (w : List ℕ). Precedes (place_of w) (place_of ls)) e h))
    go h (inr (inr g)) = absurd (never (place_of ks) (precedes_again (place_of ks) (place_of ls) (place_of ks) h (rises ls ks c b g)))
