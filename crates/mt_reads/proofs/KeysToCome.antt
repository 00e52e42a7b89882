-- Fewer keys are to come after each row that a walk gives.
use Rattle.std.proofs.Common.{ℕ, zero, suc, ◌≡◌, ◌<◌, ◌≤◌, ◌+◌, ◌-◌, ◌*◌, inl, inr, Bool, true, false, List, [], ◌∷◌, length, sym, ap, subst, arith}
use Rattle.std.specs.Prelude.{Option, Some, None, OnSome}
use Rattle.std.specs.Option.{option_map}
use Rattle.std.specs.declared.cmp.Ordering.TheVariants.{Less}
use Rattle.std.proofs.lemmas.Nat.{mul-le}
use Rattle.mt_types.specs.Keys.{key_cmp}
use Rattle.mt_types.specs.declared.limits.TheConstants.{MAX_KEY_BYTES}
use Rattle.mt_types.specs.declared.row.Row.{Row}
use Rattle.mt_slice.specs.Place.{AreBytes, place_of}
use Rattle.mt_slice.proofs.KeyOrder.{KeyLess}
use Rattle.mt_chart.specs.Tree.{Arena}
use Rattle.mt_walk.specs.Walk.{Gives}
use Rattle.mt_reads.specs.Walks.{At, IsAfter, keys_of, keys_after, keys_to_come}
use Rattle.mt_reads.proofs.WalkLemmas.{after_of, is_given, less_back, place_at}

-- n times k, and less than k, are less than n + 1 times k
step : (p q k r s : ℕ) → p + 1 ≤ q → r < k → p * k + r < q * k + s
step p q k r s more few =
    let most : (p + 1) * k ≤ q * k = mul-le (p + 1) k q k more (omega arith) in omega (arith, most, few)

pub less_than_all : (most : ℕ) (key : List ℕ) → AreBytes key → length key ≤ most → keys_after most key < keys_of most
unfolding keys_of keys_after
less_than_all zero [] bytes short = omega arith
less_than_all zero (byte ∷ key) bytes short = absurd (omega (arith, short))
less_than_all (suc most) [] bytes short = omega arith
less_than_all (suc most) (byte ∷ key) bytes short =
    let rest : keys_after most key < keys_of most = less_than_all most key bytes.1 (omega (arith, short)) in
    let up : (255 - byte) * keys_of most ≤ 255 * keys_of most = mul-le (255 - byte) (keys_of most) 255 (keys_of most) (omega arith) (omega arith) in
    omega (arith, rest, up)

-- fewer keys are after a later key
pub fewer_after : (most : ℕ) (one other : List ℕ) → AreBytes other → length one ≤ most → length other ≤ most → KeyLess one other → keys_after most other < keys_after most one
unfolding keys_of keys_after
fewer_after most one [] bytes short long less = absurd (nothing_less one less)
  where
    nothing_less : (key : List ℕ) → KeyLess key [] → ⊥
    nothing_less [] less = less
    nothing_less (byte ∷ key) less = less
fewer_after zero one (byte ∷ other) bytes short long less = absurd (omega (arith, long))
fewer_after (suc most) [] (byte ∷ other) bytes short long less =
    let rest : keys_after most other < keys_of most = less_than_all most other bytes.1 (omega (arith, long)) in
    let up : (255 - byte) * keys_of most ≤ 255 * keys_of most = mul-le (255 - byte) (keys_of most) 255 (keys_of most) (omega arith) (omega arith) in
    omega (arith, rest, up)
fewer_after (suc most) (first ∷ one) (byte ∷ other) bytes short long (inl less) =
    step (255 - byte) (255 - first) (keys_of most) (keys_after most other) (keys_after most one) (let fits = bytes.0 in omega (arith, fits, less)) (less_than_all most other bytes.1 (omega (arith, long)))
fewer_after (suc most) (first ∷ one) (byte ∷ other) bytes short long (inr (same, less)) =
    let rest : keys_after most other < keys_after most one = fewer_after most one other bytes.1 (omega (arith, short)) (omega (arith, long)) less in
    let factor : (255 - first) * keys_of most ≡ (255 - byte) * keys_of most = ap (λ (b : ℕ). (255 - b) * keys_of most) same in
    omega (arith, rest, factor)

falls : (at new : At) → new.given ≡ true → AreBytes new.key → length at.key ≤ MAX_KEY_BYTES → length new.key ≤ MAX_KEY_BYTES → IsAfter at.key at.given new.key → keys_to_come new < keys_to_come at
falls at new given bytes short long after =
    subst (λ (b : Bool). keys_to_come (record { key = new.key; given = b }) < keys_to_come at) (sym given) (go at.given after)
  where
    later : key_cmp at.key new.key ≡ Less → keys_after MAX_KEY_BYTES new.key < keys_after MAX_KEY_BYTES at.key
    later less = fewer_after MAX_KEY_BYTES at.key new.key bytes short long (less_back at.key new.key less)

    go : (b : Bool) → IsAfter at.key b new.key → keys_after MAX_KEY_BYTES new.key < keys_to_come (record { key = at.key; given = b })
    go true less = later less
    go false (inl same) = let all : keys_after MAX_KEY_BYTES at.key ≡ keys_after MAX_KEY_BYTES new.key = ap (keys_after MAX_KEY_BYTES) same in omega (arith, all)
    go false (inr less) = let fewer = later less in omega (arith, fewer)

pub fewer_to_come : {R : Type 0} (row_of : R → Row) (arena : Arena) (at : At) (found : Option R) (new : At) → AreBytes at.key → AreBytes new.key → length at.key ≤ MAX_KEY_BYTES → length new.key ≤ MAX_KEY_BYTES
    → Gives arena (place_at at.given at.key) (option_map (λ (r : Row). record { key = place_of new.key; value = r }) (option_map row_of found)) (place_at new.given new.key)
    → OnSome found (keys_to_come new < keys_to_come at)
fewer_to_come row_of arena at (Some row) new bytes others short long (next, after) =
    falls at new (is_given new.given new.key (place_of new.key) after) others short long (after_of at.key at.given new.key bytes others next.comes)
fewer_to_come row_of arena at None new bytes others short long gives = tt
