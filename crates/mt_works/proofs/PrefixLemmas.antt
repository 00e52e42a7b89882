-- The begin and the end of the keys of a view.
use Rattle.std.proofs.Common.{◌≡◌, ℕ, ◌+◌, ◌⊎◌, inl, inr, Bool, true, ◌&&◌, nat_eq, List, [], ◌∷◌, ◌++◌, Some, refl, ap, sym, ◌∙◌, arith}
use Rattle.std.specs.Prelude.{IsTrue}
use Rattle.std.specs.Ordering.{is_ge, is_lt}
use Rattle.std.specs.List.{starts_with}
use Rattle.std.specs.Cmp.{first_so, second_so}
use Rattle.std.proofs.lemmas.Bool.{false≢true, eqb-true}
use Rattle.mt_types.specs.Keys.{key_cmp}
use Rattle.mt_types.specs.Views.{is_before}
use Rattle.mt_types.specs.declared.view.ViewSpec.{ViewSpec}
use Rattle.mt_types.specs.declared.view.ViewSpec.TheVariants.{Range, Prefix}
use Rattle.mt_slice.specs.Place.{AreBytes, place_of, under}
use Rattle.mt_slice.proofs.KeyOrder.{KeyLess, key_three, cmp_less, cmp_greater, cmp_equal, place_order}
use Rattle.mt_chart.specs.Scan.{AtMost}
use Rattle.mt_chart.proofs.PlaceOrder.{then_most}
use Rattle.mt_works.specs.Build.{BuildView, IsBehindAll, first_key}
use Rattle.mt_works.specs.History.{is_within}

both_true : (a b : Bool) → a ≡ true → b ≡ true → (a && b) ≡ true
both_true a b p q = ap (λ (x : Bool). x && b) p ∙ q

same_byte : (b k : ℕ) → nat_eq b k ≡ true → k ≡ b
same_byte b k h = sym (eqb-true b k h)

-- what begins with some bytes begins with those before the last
pub starts_shorter : (bytes : List ℕ) (last : ℕ) (key : List ℕ) → starts_with nat_eq key (bytes ++ last ∷ []) ≡ true → starts_with nat_eq key bytes ≡ true
starts_shorter [] last key h = refl
starts_shorter (b ∷ bytes) last [] h = absurd (false≢true h)
starts_shorter (b ∷ bytes) last (k ∷ key) h =
    both_true _ _ (first_so (nat_eq b k) _ h) (starts_shorter bytes last key (second_so (nat_eq b k) _ h))

-- what begins with some bytes is before those with a greater last one
pub before_next : (bytes : List ℕ) (last : ℕ) (key : List ℕ) → starts_with nat_eq key (bytes ++ last ∷ []) ≡ true → KeyLess key (bytes ++ (last + 1) ∷ [])
before_next [] last [] h = absurd (false≢true h)
before_next [] last (k ∷ key) h = let same = same_byte last k (first_so (nat_eq last k) _ h) in inl (omega (arith, same))
before_next (b ∷ bytes) last [] h = absurd (false≢true h)
before_next (b ∷ bytes) last (k ∷ key) h = inr (same_byte b k (first_so (nat_eq b k) _ h), before_next bytes last key (second_so (nat_eq b k) _ h))

-- and it is not before those bytes
from_prefix : (prefix key : List ℕ) → starts_with nat_eq key prefix ≡ true → KeyLess key prefix → ⊥
from_prefix [] [] h less = less
from_prefix [] (k ∷ key) h less = less
from_prefix (b ∷ prefix) [] h less = absurd (false≢true h)
from_prefix (b ∷ prefix) (k ∷ key) h (inl less) = let same = same_byte b k (first_so (nat_eq b k) _ h) in absurd (omega (arith, same))
from_prefix (b ∷ prefix) (k ∷ key) h (inr (same, less)) = from_prefix prefix key (second_so (nat_eq b k) _ h) less

from_start : (key start : List ℕ) → is_ge (key_cmp key start) ≡ true → KeyLess key start → ⊥
from_start key start h less = absurd (false≢true (sym (ap is_ge (cmp_less key start less)) ∙ h))

-- no key of a view is before the first that it may have
pub within_from_first : (spec : ViewSpec) (key : List ℕ) → is_within spec key ≡ true → KeyLess key (first_key spec) → ⊥
within_from_first (Range lo hi test) key h = from_start key lo (first_so (is_ge (key_cmp key lo)) (is_before key hi) h)
within_from_first (Prefix prefix test) key h = from_prefix prefix key h

-- a key that is before the end of a range
less_of : (key end : List ℕ) → is_before key (Some end) ≡ true → KeyLess key end
less_of key end h = go (key_three key end)
  where
    go : KeyLess key end ⊎ ((key ≡ end) ⊎ KeyLess end key) → KeyLess key end
    go (inl less) = less
    go (inr (inl e)) = absurd (false≢true (sym (ap is_lt (ap (key_cmp key) (sym e) ∙ cmp_equal key)) ∙ h))
    go (inr (inr less)) = absurd (false≢true (sym (ap is_lt (cmp_greater key end less)) ∙ h))

-- each key of a view is before a cursor at or after a place that is after all of them
pub behind_all : (build : BuildView) (end : List ℕ) → AreBytes end → ((key : List ℕ) → IsTrue (is_within build.state.spec key) → IsTrue (is_before key (Some end)))
    → AtMost (place_of end) (under build.prefix build.at) → IsBehindAll build
behind_all build end bytes ends past key k within = then_most _ _ _ ((place_order key end k bytes).0 (less_of key end (ends key within))) past

-- bytes with their last one greater by one are after what begins with these bytes
pub end_found : (bytes : List ℕ) (last : ℕ) (key : List ℕ) → starts_with nat_eq key (bytes ++ last ∷ []) ≡ true → is_before key (Some (bytes ++ (last + 1) ∷ [])) ≡ true
end_found bytes last key h = ap is_lt (cmp_less key (bytes ++ (last + 1) ∷ []) (before_next bytes last key h))
