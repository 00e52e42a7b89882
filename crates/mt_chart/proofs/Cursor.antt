-- The number of a scan's cursor grows when the scan leaves a border by its right link, and when it leaves a layer.
use Rattle.std.proofs.Common.{ℕ, zero, suc, ◌≡◌, ◌<◌, ◌≤◌, ◌+◌, ◌*◌, List, [], ◌∷◌, ◌++◌, length, refl, sym, arith, append_assoc}
use Rattle.std.proofs.Math.Nat.{mul-le-mul_right}
use Rattle.mt_chart.specs.CursorNumber.{base_power, digits_number, AreDigits, digit_base, digits_above}

-- the first part decides if the second is less than the base
pub less_than_more : (d e x y z : ℕ) → d < e → x < y → d * y + x < e * y + z
less_than_more d e x y z h w =
    let k : suc d * y ≤ e * y = mul-le-mul_right y h in
    let s : suc d * y ≡ d * y + y = grind arith in
    omega arith

module _ (base : ℕ) where
  pub number_below : (i : ℕ) (ds : List ℕ) → 0 < base → AreDigits base ds → digits_number base i ds < base_power base i
  number_below zero ds h w = omega arith
  number_below (suc i) [] h w = let k : digits_number base i [] < base_power base i = number_below i [] h tt in positive (base_power base i) k
    where
      positive : (p : ℕ) → digits_number base i [] < p → 0 < base * p
      positive p k = let j : 0 * p + digits_number base i [] < base * p + 0 = less_than_more 0 base (digits_number base i []) p 0 h k in omega (arith, j)
  number_below (suc i) (d ∷ ds) h w =
      let k : digits_number base i ds < base_power base i = number_below i ds h w.1 in
      let j : d * base_power base i + digits_number base i ds < base * base_power base i + 0 = less_than_more d base (digits_number base i ds) (base_power base i) 0 w.0 k in
      omega (arith, j)

  -- the first digit in which they differ decides
  pub grows : (i : ℕ) (cs ds es : List ℕ) (d e : ℕ) → length cs < i → 0 < base → AreDigits base ds → d < e → digits_number base i (cs ++ (d ∷ ds)) < digits_number base i (cs ++ (e ∷ es))
  grows zero cs ds es d e l h w q = absurd (omega arith)
  grows (suc i) [] ds es d e l h w q = less_than_more d e (digits_number base i ds) (base_power base i) (digits_number base i es) q (number_below i ds h w)
  grows (suc i) (c ∷ cs) ds es d e l h w q = let k : digits_number base i (cs ++ (d ∷ ds)) < digits_number base i (cs ++ (e ∷ es)) = grows i cs ds es d e (omega arith) h w q in omega (arith, k)

-- fewer digits are no more
pub grows_longer : (base i : ℕ) (cs es : List ℕ) → digits_number base i (cs ++ []) ≤ digits_number base i (cs ++ es)
grows_longer base zero cs es = omega arith
grows_longer base (suc i) [] es = omega arith
grows_longer base (suc i) (c ∷ cs) es = let h : digits_number base i (cs ++ []) ≤ digits_number base i (cs ++ es) = grows_longer base i cs es in omega (arith, h)

above_parts : (p ds : List ℕ) → digits_above p ds ≡ digits_above p [] ++ ds
above_parts [] ds = refl
above_parts (s ∷ p) ds =
    let e : digits_above p ((2 * s) ∷ ds) ≡ digits_above p [] ++ ((2 * s) ∷ ds) = above_parts p ((2 * s) ∷ ds) in
    let f : digits_above p ((2 * s) ∷ []) ≡ digits_above p [] ++ ((2 * s) ∷ []) = above_parts p ((2 * s) ∷ []) in
    let g : (digits_above p [] ++ ((2 * s) ∷ [])) ++ ds ≡ digits_above p [] ++ (((2 * s) ∷ []) ++ ds) = append_assoc (digits_above p []) ((2 * s) ∷ []) ds in
    rw e (rw f (sym g))

length_above : (p ds : List ℕ) → length (digits_above p ds) ≡ length p + length ds
length_above [] ds = omega arith
length_above (s ∷ p) ds = let h : length (digits_above p ((2 * s) ∷ ds)) ≡ length p + length ((2 * s) ∷ ds) = length_above p ((2 * s) ∷ ds) in omega (arith, h)

module _ (places : ℕ) where
  grows_above : (p ds es : List ℕ) (d e : ℕ) → length p < places → AreDigits digit_base ds → d < e → digits_number digit_base places (digits_above p (d ∷ ds)) < digits_number digit_base places (digits_above p (e ∷ es))
  grows_above p ds es d e l h q =
      let m : length (digits_above p []) ≡ length p = (let k = length_above p [] in omega (arith, k)) in
      let x : digits_number digit_base places (digits_above p [] ++ (d ∷ ds)) < digits_number digit_base places (digits_above p [] ++ (e ∷ es)) = grows digit_base places (digits_above p []) ds es d e (omega (arith, m)) (omega arith) h q in
      let u : digits_above p (d ∷ ds) ≡ digits_above p [] ++ (d ∷ ds) = above_parts p (d ∷ ds) in
      let v : digits_above p (e ∷ es) ≡ digits_above p [] ++ (e ∷ es) = above_parts p (e ∷ es) in
      rw u (rw v x)

  -- a scan in the layer of the prefix `p`, with its cursor at or after the slice `s`, leaves a border by a right link
  -- of the greater low `w`
  pub leaves_border : (p ds : List ℕ) (d s w : ℕ) → length p < places → AreDigits digit_base ds → d ≤ 2 * s + 1 → s < w →
      digits_number digit_base places (digits_above p (d ∷ ds)) < digits_number digit_base places (digits_above p ((2 * w) ∷ []))
  leaves_border p ds d s w l h m q = grows_above p ds [] d (2 * w) l h (omega arith)

  -- a scan whose cursor is in the layer at the slice `t` below the prefix `p` leaves that layer
  pub leaves_layer : (p ds : List ℕ) (t : ℕ) → length p < places → AreDigits digit_base ds → digits_number digit_base places (digits_above (t ∷ p) ds) < digits_number digit_base places (digits_above p ((2 * t + 1) ∷ []))
  leaves_layer p ds t l h = grows_above p ds [] (2 * t) (2 * t + 1) l h (omega arith)
