-- The pairs that a scan has taken, in the order of their keys.
use Rattle.std.proofs.Common.{ℕ, suc, ◌≡◌, ◌<◌, ◌+◌, ◌-◌, ◌⊎◌, inl, inr, true, false, List, [], ◌∷◌, ◌++◌, length, take, Some, slice_get, refl, sym, ap, subst, ◌∙◌, arith, length-append}
use Rattle.std.specs.Ordering.{is_le}
use Rattle.std.proofs.lemmas.List.{take_more, take_all}
use Rattle.std.proofs.lemmas.Option.{slice_get_within, get_or_from_slice_get}
use Rattle.mt_types.specs.declared.row.Row.{Row}
use Rattle.mt_slice.specs.Place.{Place, Precedes, AreBytes, place_of, place_cmp}
use Rattle.mt_slice.proofs.PlaceOrder.{three, place_cmp-less, place_cmp-greater, place_cmp-Equal}
use Rattle.mt_chart.specs.Tree.{Among, first, later}
use Rattle.mt_chart.specs.Scan.{AtMost, Pair, Rising}
use Rattle.mt_chart.specs.KeyAnswer.{as_places, KeysAreBytes}
use Rattle.mt_scan.specs.Scan.{ScanView, IsScan, IsNext}
use Rattle.mt_chart.proofs.Entries.{among_append}
use Rattle.mt_chart.proofs.PlaceOrder.{most_then}

-- a pair, its key as its place
abbrev pub placed : List ℕ × Row → Pair Row
placed pair = record { key = place_of pair.0; value = pair.1 }

pub as_places-append : (xs ys : List (List ℕ × Row)) → as_places (xs ++ ys) ≡ as_places xs ++ as_places ys
as_places-append [] ys = refl
as_places-append (x ∷ xs) ys = ap (λ ps. placed x ∷ ps) (as_places-append xs ys)

pub length-as_places : (xs : List (List ℕ × Row)) → length (as_places xs) ≡ length xs
length-as_places [] = refl
length-as_places (x ∷ xs) = ap suc (length-as_places xs)

pub bytes-push : (xs : List (List ℕ × Row)) (x : List ℕ × Row) → KeysAreBytes xs → AreBytes x.0 → KeysAreBytes (xs ++ x ∷ [])
bytes-push [] x all one = (one, tt)
bytes-push (y ∷ ys) x all one = (all.0, bytes-push ys x all.1 one)

rising-push : (ps : List (Pair Row)) (p : Pair Row) → Rising ps → ((q : Pair Row) → Among q ps → Precedes q.key p.key) → Rising (ps ++ p ∷ [])
rising-push [] p rises before = (λ q i. elim i [ ], tt)
rising-push (r ∷ ps) p rises before = (
  λ q i. go q ((among_append q ps (p ∷ [])).0 i),
  rising-push ps p rises.1 (λ q i. before q (later i)),
)
  where
    go : (q : Pair Row) → Among q ps ⊎ Among q (p ∷ []) → Precedes r.key q.key
    go q (inl i) = rises.0 q i
    go q (inr first) = before r first
    go q (inr (later i)) = elim i [ ]

pub rises-push : (xs : List (List ℕ × Row)) (x : List ℕ × Row) → Rising (as_places xs) → ((q : Pair Row) → Among q (as_places xs) → Precedes q.key (place_of x.0)) → Rising (as_places (xs ++ x ∷ []))
rises-push xs x rises before = subst (λ (ps : List (Pair Row)). Rising ps) (sym (as_places-append xs (x ∷ []))) (rising-push (as_places xs) (placed x) rises before)

-- no key is after the last
to_last : (ps : List (Pair Row)) (p : Pair Row) → Rising (ps ++ p ∷ []) → (q : Pair Row) → Among q (ps ++ p ∷ []) → AtMost q.key p.key
to_last [] p rises q first = inl refl
to_last [] p rises q (later i) = elim i [ ]
to_last (r ∷ ps) p rises q first = inr (rises.0 p ((among_append p ps (p ∷ [])).1 (inr first)))
to_last (r ∷ ps) p rises q (later i) = to_last ps p rises.1 q i

module _ (xs : List (List ℕ × Row)) (x : List ℕ × Row) (is : slice_get xs (length xs - 1) ≡ Some x) where
  ends : as_places xs ≡ as_places (take (length xs - 1) xs) ++ placed x ∷ []
  ends =
      let within : length xs - 1 < length xs = slice_get_within xs (length xs - 1) x is in
      let whole : length xs - 1 + 1 ≡ length xs = omega (arith, within) in
      ap as_places (sym (take_all (length xs) xs (omega arith)) ∙ ap (λ n. take n xs) (sym whole) ∙ take_more xs (length xs - 1) x within
      ∙ ap (λ (y : List ℕ × Row). take (length xs - 1) xs ++ y ∷ []) (get_or_from_slice_get xs (length xs - 1) x x is))
      ∙ as_places-append (take (length xs - 1) xs) (x ∷ [])

  pub last-taken : Among (placed x) (as_places xs)
  last-taken = subst (λ (ps : List (Pair Row)). Among (placed x) ps) (sym ends) ((among_append (placed x) (as_places (take (length xs - 1) xs)) (placed x ∷ [])).1 (inr first))

  pub after-last : (key : Place) → Rising (as_places xs) → Precedes (place_of x.0) key → (q : Pair Row) → Among q (as_places xs) → Precedes q.key key
  after-last key rises next q i =
      most_then q.key (place_of x.0) key
      (to_last (as_places (take (length xs - 1) xs)) (placed x) (subst (λ (ps : List (Pair Row)). Rising ps) ends rises) q (subst (λ (ps : List (Pair Row)). Among q ps) ends i))
      next

-- how two places compare
pub at_most : (x y : Place) → is_le (place_cmp x y) ≡ true → AtMost x y
at_most x y le = go (three x y)
  where
    go : Precedes x y ⊎ ((x ≡ y) ⊎ Precedes y x) → AtMost x y
    go (inl h) = inr h
    go (inr (inl e)) = inl e
    go (inr (inr h)) = absurd (let f : false ≡ true = sym (ap is_le (place_cmp-greater x y h)) ∙ le in cc)

pub from_at_most : (x y : Place) → AtMost x y → is_le (place_cmp x y) ≡ true
from_at_most x y (inl e) = ap is_le ((place_cmp-Equal x y).1 e)
from_at_most x y (inr h) = ap is_le (place_cmp-less x y h)

pub after : (x y : Place) → is_le (place_cmp x y) ≡ false → Precedes y x
after x y no_le = go (three x y)
  where
    go : Precedes x y ⊎ ((x ≡ y) ⊎ Precedes y x) → Precedes y x
    go (inl h) = absurd (let f : true ≡ false = sym (ap is_le (place_cmp-less x y h)) ∙ no_le in cc)
    go (inr (inl e)) = absurd (let f : true ≡ false = sym (ap is_le ((place_cmp-Equal x y).1 e)) ∙ no_le in cc)
    go (inr (inr h)) = h

-- a scan that has taken one pair more
pub is_scan-push : (s : ScanView) (key : List ℕ) (row : Row) (taken : List (List ℕ × Row)) → IsScan s → length s.taken < s.limit → AreBytes key → IsNext s (place_of key)
    → taken ≡ s.taken ++ (key, row) ∷ [] → IsScan (record s { taken = taken })
is_scan-push s key row taken sound room bytes next is =
    subst (λ (pairs : List (List ℕ × Row)). IsScan (record s { taken = pairs })) (sym is) (record {
      few = omega (arith, room, length-append s.taken ((key, row) ∷ []));
      bytes = bytes-push s.taken (key, row) sound.bytes bytes;
      rises = rises-push s.taken (key, row) sound.rises next;
    })
