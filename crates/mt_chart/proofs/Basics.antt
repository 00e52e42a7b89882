-- Places: a key has one prefix of each length.
use Rattle.std.proofs.Common.{ℕ, ◌≡◌, ◌≢◌, ◌<◌, ◌⊎◌, inl, inr, List, [], ◌∷◌, ◌++◌, length, refl, sym, ap, arith}
use Rattle.mt_slice.specs.Place.{Place, deeper, under}
use native.Mathlib.Decide.{ℕ_discrete, dec_lt}

pub same_number : (n m : ℕ) → (n ≡ m) ⊎ (n ≢ m)
same_number n m = elim (ℕ_discrete n m) [ yes e ↦ inl e | no h ↦ inr h ]

pub same_depth : (p q : List ℕ) (x y : Place) → length p ≡ length q → under p x ≡ under q y → (p ≡ q) × (x ≡ y)
same_depth [] [] x y l e = (refl, e)
same_depth [] (s ∷ q) x y l e = absurd (omega arith)
same_depth (s ∷ p) [] x y l e = absurd (omega arith)
same_depth (s ∷ p) (t ∷ q) x y l e =
    let h : (p ≡ q) × (deeper s x ≡ deeper t y) = same_depth p q (deeper s x) (deeper t y) (omega arith) e in
    let h0 : p ≡ q = h.0 in let h1 : deeper s x ≡ deeper t y = h.1 in
    let st : s ≡ t = cc in
    (cc, cc)

-- the key of a deeper layer, seen from a layer above
pub longer : (p q : List ℕ) (x y : Place) → length q < length p → under p x ≡ under q y →
    (r : List ℕ) × (s : ℕ) × (z : Place) × (p ≡ r ++ (s ∷ q)) × (y ≡ deeper s z)
longer [] q x y l e = absurd (omega arith)
longer (t ∷ p) q x y l e = go (dec_lt (length q) (length p)) (longer p q (deeper t x) y)
  where
    go : Dec (length q < length p) → (length q < length p → under p (deeper t x) ≡ under q y →
        (r : List ℕ) × (s : ℕ) × (z : Place) × (p ≡ r ++ (s ∷ q)) × (y ≡ deeper s z)) →
        (r : List ℕ) × (s : ℕ) × (z : Place) × (◌≡◌ {A = List ℕ} (t ∷ p) (r ++ (s ∷ q))) × (y ≡ deeper s z)
    go (yes h) f = let (r, s, z, u, v) = f h e in (t ∷ r, s, z, ap (λ w. t ∷ w) u, v)
    go (no h) f = let (u, v) = same_depth p q (deeper t x) y (omega arith) e in ([], t, x, ap (λ w. t ∷ w) u, sym v)
