-- The answer of a range in the words of keys of bytes and of the map's order.
use Rattle.std.proofs.Common.{ℕ, zero, suc, ◌≡◌, ◌<◌, ◌≤◌, ◌⊎◌, inl, inr, Bool, true, false, ◌&&◌, List, [], ◌∷◌, length, refl, sym, ap, subst, ◌∙◌, arith}
use Rattle.std.specs.Prelude.{All, Any, IsTrue}
use Rattle.std.specs.List.{slice_index_or}
use Rattle.std.specs.FinMap.{is_sorted}
use Rattle.std.specs.FinMap.Entries.{below_all}
use Rattle.std.specs.declared.cmp.Ordering.TheVariants.{Equal}
use Rattle.std.specs.Ordering.{is_lt, is_le, is_ge}
use Rattle.mt_slice.specs.Place.{Place, Precedes, place_of, AreBytes}
use Rattle.mt_chart.specs.Tree.{Among, first, later}
use Rattle.mt_types.specs.Ranges.{IsRangeAnswer}
use Rattle.mt_types.proofs.RangeLemmas.{given_once}
use Rattle.mt_chart.specs.KeyAnswer.{as_places, KeysAreBytes}
use Rattle.mt_chart.specs.Scan.{AtMost, Pair, Rising, UpTo, Listed, AnswersRange}
use Rattle.mt_slice.proofs.KeyOrder.{KeyLess, place_order, key_three, cmp_less, cmp_greater, cmp_equal}
use Rattle.mt_slice.proofs.PlaceOrder.{never}
use Rattle.mt_chart.proofs.Entries.{among_cases}
use Rattle.mt_chart.proofs.PlaceOrder.{not_both}
use Rattle.mt_types.specs.Keys.{key_cmp}

pub key_bytes : {V : Type 0} (x : List ℕ × V) (xs : List (List ℕ × V)) → KeysAreBytes xs → Among x xs → AreBytes x.0
key_bytes x [] b i = elim i [ ]
key_bytes x (y ∷ ys) b first = b.0
key_bytes x (y ∷ ys) b (later i) = key_bytes x ys b.1 i

pub among_place : {V : Type 0} (x : List ℕ × V) (xs : List (List ℕ × V)) → Among x xs → Among (record { key = place_of x.0; value = x.1 }) (as_places xs)
among_place x [] i = elim i [ ]
among_place x (y ∷ ys) first = first
among_place x (y ∷ ys) (later i) = later (among_place x ys i)

pub place_among : {V : Type 0} (y : Pair V) (xs : List (List ℕ × V)) → Among y (as_places xs) → (x : List ℕ × V) × Among x xs × (y ≡ record { key = place_of x.0; value = x.1 })
place_among y [] i = elim i [ ]
place_among {V} y (x ∷ xs) i = go (place_among y xs) (among_cases y (record { key = place_of x.0; value = x.1 }) (as_places xs) i)
  where
    go : (Among y (as_places xs) → (z : List ℕ × V) × Among z xs × (y ≡ record { key = place_of z.0; value = z.1 })) →
        (y ≡ record { key = place_of x.0; value = x.1 }) ⊎ Among y (as_places xs) → (z : List ℕ × V) × Among z (x ∷ xs) × (y ≡ record { key = place_of z.0; value = z.1 })
    go f (inl e) = (x, first, e)
    go f (inr j) = let (z, k, e) = f j in (z, later k, e)

all_from : {X : Type 0} (P : X → Type 0) (xs : List X) → ((x : X) → Among x xs → P x) → All P xs
all_from P [] h k d lt = absurd (omega arith)
all_from P (x ∷ xs) h zero d lt = h x first
all_from P (x ∷ xs) h (suc k) d lt = all_from P xs (λ y i. h y (later i)) k d (omega arith)

any_from : {X : Type 0} (P : X → Type 0) (y : X) (xs : List X) → Among y xs → P y → Any P xs
any_from P y [] i p = elim i [ ]
any_from P y (x ∷ xs) first p = (0, y, omega arith, refl, p)
any_from P y (x ∷ xs) (later i) p = let (k, z, lt, e, q) = any_from P y xs i p in (suc k, z, omega arith, e, q)

among_at : {X : Type 0} (xs : List X) (k : ℕ) (x : X) → k < length xs → slice_index_or xs k x ≡ x → Among x xs
among_at [] k x lt e = absurd (omega arith)
among_at (y ∷ ys) zero x lt e = subst (λ w. Among w (y ∷ ys)) e first
among_at (y ∷ ys) (suc k) x lt e = later (among_at ys k x (omega arith) e)

-- the order
ge_from : (k start : List ℕ) → AreBytes k → AreBytes start → AtMost (place_of start) (place_of k) → is_ge (key_cmp k start) ≡ true
ge_from k start b c h = go (key_three k start)
  where
    go : KeyLess k start ⊎ ((k ≡ start) ⊎ KeyLess start k) → is_ge (key_cmp k start) ≡ true
    go (inl g) = absurd (not_both (place_of start) (place_of k) h ((place_order k start b c).0 g))
    go (inr (inl e)) = ap is_ge (subst (λ (w : List ℕ). key_cmp k w ≡ Equal) e (cmp_equal k))
    go (inr (inr g)) = ap is_ge (cmp_greater k start g)

pub from_ge : (k start : List ℕ) → AreBytes k → AreBytes start → is_ge (key_cmp k start) ≡ true → AtMost (place_of start) (place_of k)
from_ge k start b c h = go (key_three k start)
  where
    go : KeyLess k start ⊎ ((k ≡ start) ⊎ KeyLess start k) → AtMost (place_of start) (place_of k)
    go (inl g) = absurd (let e : is_ge (key_cmp k start) ≡ false = ap is_ge (cmp_less k start g) in let f : true ≡ false = sym h ∙ e in cc)
    go (inr (inl e)) = inl (ap place_of (sym e))
    go (inr (inr g)) = inr ((place_order start k c b).0 g)

from_le : (k l : List ℕ) → AreBytes k → AreBytes l → is_le (key_cmp k l) ≡ true → AtMost (place_of k) (place_of l)
from_le k l b c h = go (key_three k l)
  where
    go : KeyLess k l ⊎ ((k ≡ l) ⊎ KeyLess l k) → AtMost (place_of k) (place_of l)
    go (inl g) = inr ((place_order k l b c).0 g)
    go (inr (inl e)) = inl (ap place_of e)
    go (inr (inr g)) = absurd (let e : is_le (key_cmp k l) ≡ false = ap is_le (cmp_greater k l g) in let f : true ≡ false = sym h ∙ e in cc)

-- one place is of one key
pub place_is_one : (k l : List ℕ) → AreBytes k → AreBytes l → place_of k ≡ place_of l → k ≡ l
place_is_one k l b c e = go (key_three k l)
  where
    go : KeyLess k l ⊎ ((k ≡ l) ⊎ KeyLess l k) → k ≡ l
    go (inl g) = absurd (never (place_of l) (subst (λ (w : Place). Precedes w (place_of l)) e ((place_order k l b c).0 g)))
    go (inr (inl f)) = f
    go (inr (inr g)) = absurd (never (place_of l) (subst (λ (w : Place). Precedes (place_of l) w) e ((place_order l k c b).0 g)))

and_true : (a b : Bool) → a ≡ true → b ≡ true → (a && b) ≡ true
and_true a b p q = ap (λ w. w && b) p ∙ q

-- a list whose head's key is before all the others' keys, by its head
pub keys_rise : {V : Type 0} (xs : List (List ℕ × V)) → KeysAreBytes xs → Rising (as_places xs) → IsTrue (is_sorted (key_cmp) xs)
keys_rise [] b r = refl
keys_rise {V} (x ∷ xs) b r = and_true _ _ (below xs b.1 r.0) (keys_rise xs b.1 r.1)
  where
    below : (ys : List (List ℕ × V)) → KeysAreBytes ys → ((y : Pair V) → Among y (as_places ys) → Precedes (place_of x.0) y.key) → below_all (key_cmp) x.0 ys ≡ true
    below [] c h = refl
    below (y ∷ ys) c h = and_true _ _ (ap is_lt (cmp_less x.0 y.0 ((place_order x.0 y.0 b.0 c.0).1 (h (record { key = place_of y.0; value = y.1 }) first)))) (below ys c.1 (λ z i. h z (later i)))

pub same_length : {V : Type 0} (xs : List (List ℕ × V)) → length (as_places xs) ≡ length xs
same_length [] = refl
same_length (x ∷ xs) = ap suc (same_length xs)

pub answers_keys : {V : Type 0} (stood : Place → V → Type 0) (throughout : Place → Type 0) (start : List ℕ) (limit : ℕ) (pairs : List (List ℕ × V)) → AreBytes start → KeysAreBytes pairs →
    AnswersRange stood throughout (place_of start) limit (as_places pairs) → IsRangeAnswer (λ key v. stood (place_of key) v) (λ key. AreBytes key × throughout (place_of key)) start limit pairs
answers_keys {V} stood throughout start limit pairs c b a = record {
  rises = keys_rise pairs b a.rises;
  from_start = all_from (λ (pair : List ℕ × V). IsTrue (is_ge (key_cmp pair.0 start))) pairs
      (λ x i. ge_from x.0 start (key_bytes x pairs b i) c (a.from_start (record { key = place_of x.0; value = x.1 }) (among_place x pairs i)));
  few = (let e : length (as_places pairs) ≡ length pairs = same_length pairs in let f : length (as_places pairs) ≤ limit = a.few in omega arith);
  stood = all_from (λ (pair : List ℕ × V). stood (place_of pair.0) pair.1) pairs (λ x i. a.shown (record { key = place_of x.0; value = x.1 }) (among_place x pairs i));
  once = λ key from t h. given_once key pairs (keys_rise pairs b a.rises) (found key t.0 (a.complete (place_of key) (from_ge key start t.0 c from) t.1 (bound key t.0 h)));
}
  where
    bound : (key : List ℕ) → AreBytes key → (length pairs < limit) ⊎ Any (λ (pair : List ℕ × V). IsTrue (is_le (key_cmp key pair.0))) pairs → (length (as_places pairs) < limit) ⊎ UpTo (place_of key) (as_places pairs)
    bound key d (inl h) = inl (let e : length (as_places pairs) ≡ length pairs = same_length pairs in omega arith)
    bound key d (inr (k, x, lt, e, p)) =
        let i : Among x pairs = among_at pairs k x lt e in
        inr (record { key = place_of x.0; value = x.1 }, among_place x pairs i, from_le key x.0 d (key_bytes x pairs b i) p)

    found : (key : List ℕ) → AreBytes key → Listed (place_of key) (as_places pairs) → Any (λ (pair : List ℕ × V). pair.0 ≡ key) pairs
    found key d (y, i, e) =
        let (x, j, f) = place_among y pairs i in
        any_from (λ (pair : List ℕ × V). pair.0 ≡ key) x pairs j (place_is_one x.0 key (key_bytes x pairs b j) d (sym (ap (λ (w : Pair V). w.key) f) ∙ e))
