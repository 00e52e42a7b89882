-- The moves of a cursor, in its slices.
use Rattle.std.proofs.Common.{ℕ, ◌≡◌, ◌<◌, ◌≤◌, ◌+◌, inl, inr, Bool, true, false, cond, leb, nat_eq, List, [], ◌∷◌, ◌++◌, length, take, drop, reverse, get_or, refl, sym, ap, ◌∙◌, arith, rules}
use Rattle.std.proofs.lemmas.Bool.{cases_lt, eqb-true, le-leb, cond-true, false≢true}
use Rattle.std.proofs.lemmas.List.{take-append-drop, drop_more, drop_all, take_more, get_or_default, reverse-append, reverse-reverse, length-reverse, length-take-le}
use Rattle.std.specs.declared.cmp.Ordering.{Ordering}
use Rattle.mt_slice.specs.Place.{Place, last, deeper, under, place_of, place_cmp, slice_number}
use Rattle.mt_slice.specs.Classes.{IsClass, class_number, class_of, place_at}
use Rattle.mt_slice.specs.declared.slice_class.Class.{Class}
use Rattle.mt_slice.specs.declared.slice_class.Class.TheVariants.{Len, Long}
use Rattle.mt_slice.proofs.PlaceOn.{place_of-short}
use Rattle.mt_scan.specs.Cursor.{CursorView, place_from, place_with, cursor_view, is_inside, entered_at, Leaves}

pub under-last : (above : List ℕ) (slice : ℕ) (rest : Place) → under (above ++ slice ∷ []) rest ≡ deeper slice (under above rest)
under-last [] slice rest = refl
under-last (s ∷ above) slice rest = under-last above slice (deeper s rest)

-- a place by the slices above a layer, and those from it on
pub place_from-append : (class : ℕ) (above : List ℕ) (slice : ℕ) (slices : List ℕ) → place_from class (above ++ slice ∷ slices) ≡ under (reverse above) (place_from class (slice ∷ slices))
place_from-append class [] slice slices = refl
place_from-append class (s ∷ []) slice slices = refl
place_from-append class (s ∷ (t ∷ above)) slice slices =
    ap (deeper s) (place_from-append class (t ∷ above) slice slices)
    ∙ sym (under-last (reverse (t ∷ above)) s (place_from class (slice ∷ slices)))
    ∙ ap (λ ps. under ps (place_from class (slice ∷ slices))) (sym (reverse-append (s ∷ []) (t ∷ above)))

module _ (slices : List ℕ) (class depth : ℕ) (within : depth < length slices) where
  -- at its last slice, or at one that it goes past
  pub at_last : length slices ≤ depth + 1 → place_from class (drop depth slices) ≡ last (get_or slices depth 0) class
  at_last few = ap (place_from class) (drop_more slices depth 0 within ∙ ap (λ rest. get_or slices depth 0 ∷ rest) (drop_all (depth + 1) slices few))

  pub at_deeper : depth + 1 < length slices → place_from class (drop depth slices) ≡ deeper (get_or slices depth 0) (place_from class (drop (depth + 1) slices))
  at_deeper more =
      let next : drop (depth + 1) slices ≡ get_or slices (depth + 1) 0 ∷ drop (depth + 1 + 1) slices = drop_more slices (depth + 1) 0 more in
      ap (place_from class) (drop_more slices depth 0 within ∙ ap (λ rest. get_or slices depth 0 ∷ rest) next)
      ∙ ap (λ rest. deeper (get_or slices depth 0) (place_from class rest)) (sym next)

  -- back to layer 0
  pub restarted : (old : CursorView) → cursor_view slices class depth ≡ old → cursor_view slices class 0 ≡ record { prefix = []; at = under old.prefix old.at }
  restarted old is =
      let from = drop_more slices depth 0 within in
      let cut : slices ≡ take depth slices ++ get_or slices depth 0 ∷ drop (depth + 1) slices = sym (take-append-drop depth slices) ∙ ap (λ rest. take depth slices ++ rest) from in
      let whole : place_from class slices ≡ under (reverse (take depth slices)) (place_from class (drop depth slices)) =
      ap (place_from class) cut ∙ place_from-append class (take depth slices) (get_or slices depth 0) (drop (depth + 1) slices)
      ∙ ap (λ rest. under (reverse (take depth slices)) (place_from class rest)) (sym from) in
      ap (λ (p : Place). let c : CursorView = record { prefix = []; at = p } in c) (whole ∙ ap (λ (c : CursorView). under c.prefix c.at) is)

  -- into a layer
  pub prefix-more : reverse (take (depth + 1) slices) ≡ get_or slices depth 0 ∷ reverse (take depth slices)
  prefix-more = ap reverse (take_more slices depth 0 within) ∙ reverse-append (take depth slices) (get_or slices depth 0 ∷ [])

  pub entered_inside : (slice : ℕ) (old : CursorView) → cursor_view slices class depth ≡ old → is_inside slice old.at ≡ true →
      (depth + 1 < length slices) × (cursor_view slices class (depth + 1) ≡ record { prefix = slice ∷ old.prefix; at = entered_at slice old.at })
  entered_inside slice old is inside = elim (cases_lt (depth + 1) (length slices)) [
    | inl more ↦
        let at : old.at ≡ deeper (get_or slices depth 0) (place_from class (drop (depth + 1) slices)) = ap (λ (c : CursorView). c.at) (sym is) ∙ at_deeper more in
        let here : nat_eq (get_or slices depth 0) slice ≡ true = sym (ap (is_inside slice) at) ∙ inside in
        let same : get_or slices depth 0 ≡ slice = eqb-true (get_or slices depth 0) slice here in
        let rest : entered_at slice old.at ≡ place_from class (drop (depth + 1) slices) =
        ap (entered_at slice) at ∙ ap (λ b. cond b (place_from class (drop (depth + 1) slices)) (last 0 0)) here in (
          more,
          ap (λ (ps : List ℕ). let c : CursorView = record { prefix = ps; at = place_from class (drop (depth + 1) slices) } in c)
              (prefix-more ∙ ap (λ s. s ∷ reverse (take depth slices)) same ∙ ap (λ (c : CursorView). slice ∷ c.prefix) is)
              ∙ ap (λ (p : Place). let c : CursorView = record { prefix = slice ∷ old.prefix; at = p } in c) (sym rest),
        )
    | inr few ↦ absurd (false≢true (sym (ap (λ (c : CursorView). is_inside slice c.at) (sym is) ∙ ap (is_inside slice) (at_last (omega (arith, few)))) ∙ inside))
  ]

-- behind its layer, of which these are the slices above
pub left : (slices : List ℕ) → 0 < length slices → (slice : ℕ) × (above : List ℕ) × (reverse slices ≡ slice ∷ above) × (place_from 10 slices ≡ under above (last slice 10))
left slices some = go (reverse slices) refl
  where
    go : (ps : List ℕ) → reverse slices ≡ ps → (slice : ℕ) × (above : List ℕ) × (reverse slices ≡ slice ∷ above) × (place_from 10 slices ≡ under above (last slice 10))
    go [] e = absurd (let none : length (reverse slices) ≡ 0 = ap length e in omega (arith, length-reverse slices))
    go (slice ∷ above) e =
        let back : slices ≡ reverse above ++ slice ∷ [] = sym (reverse-reverse slices) ∙ ap reverse e ∙ reverse-append (slice ∷ []) above in (
          slice,
          above,
          e,
          ap (place_from 10) back ∙ place_from-append 10 (reverse above) slice [] ∙ ap (λ ps. under ps (last slice 10)) (reverse-reverse above),
        )

pub leaves : (slices : List ℕ) (class depth : ℕ) (old : CursorView) → depth < length slices → cursor_view slices class depth ≡ old → 0 < depth → Leaves old true (cursor_view (take depth slices) 10 0)
leaves slices class depth old within is some =
    let parts = left (take depth slices) (omega (arith, length-take-le depth slices)) in (
      parts.0,
      parts.1,
      sym (ap (λ (c : CursorView). c.prefix) is) ∙ parts.2,
      ap (λ (p : Place). let c : CursorView = record { prefix = []; at = p } in c) parts.3,
    )

-- the place of a key, by its last slice
pub key-whole : (key rest slices : List ℕ) (slice class : ℕ) → place_of key ≡ under (reverse slices) (place_of rest) → length rest ≤ 8 → slice ≡ slice_number rest → class ≡ class_number (class_of (length rest)) →
    cursor_view (slices ++ slice ∷ []) class 0 ≡ record { prefix = []; at = place_of key }
key-whole key rest slices slice class so_far short is number =
    let fits : class ≡ length rest = number ∙ ap class_number (cond-true (leb (length rest) 8) (Len (length rest)) Long (le-leb (length rest) 8 short)) in
    ap (λ (p : Place). let c : CursorView = record { prefix = []; at = p } in c)
    (place_from-append class slices slice [] ∙ ap (λ s. under (reverse slices) (last s class)) is ∙ ap (λ k. under (reverse slices) (last (slice_number rest) k)) fits
    ∙ ap (under (reverse slices)) (sym (place_of-short rest short)) ∙ sym so_far)

-- whether a place is in the layer below a slice
module _ (slices : List ℕ) (class depth slice : ℕ) (old : CursorView) (within : depth < length slices) (is : cursor_view slices class depth ≡ old) where
  pub inside-no : length slices ≤ depth + 1 → false ≡ is_inside slice old.at
  inside-no few = sym (ap (is_inside slice) (at_last slices class depth within few)) ∙ ap (λ (c : CursorView). is_inside slice c.at) is

  pub inside-here : (own : ℕ) → depth + 1 < length slices → own ≡ get_or slices depth own → nat_eq own slice ≡ is_inside slice old.at
  inside-here own more here =
      let same : own ≡ get_or slices depth 0 = here ∙ get_or_default slices depth own 0 within in
      ap (λ s. nat_eq s slice) same ∙ sym (ap (is_inside slice) (at_deeper slices class depth within more)) ∙ ap (λ (c : CursorView). is_inside slice c.at) is

-- the place of a class by its number
with-number : (slice : ℕ) (c : Class) (rest : Place) → IsClass c → place_with slice (class_number c) rest ≡ place_at slice c rest
with-number slice (Len bytes) rest h = ap (λ (b : Bool). cond b (deeper slice rest) (last slice bytes)) (no_nine bytes h)
  where
    no_nine : (n : ℕ) → n ≤ 8 → nat_eq n 9 ≡ false
    no_nine n le = search (rules, le)
with-number slice Long rest h = refl

-- bytes as they compare with a cursor
pub compared : (lent slices : List ℕ) (class depth : ℕ) (old : CursorView) (bytes rest : List ℕ) (slice : ℕ) (c : Class) (number : ℕ) (order : Ordering) → depth < length slices
    → cursor_view slices class depth ≡ old → lent ≡ slices → rest ≡ drop 8 bytes → IsClass c → number ≡ class_number c → place_of bytes ≡ place_at slice c (place_of (drop 8 bytes))
    → order ≡ place_cmp (place_with slice number (place_of rest)) (place_from class lent) → order ≡ place_cmp (place_of bytes) (under old.prefix old.at)
compared lent slices class depth old bytes rest slice c number order within is same follows known numbered place e =
    e ∙ ap (λ (n : ℕ). place_cmp (place_with slice n (place_of rest)) (place_from class lent)) numbered
    ∙ ap (λ (p : Place). place_cmp p (place_from class lent)) (with-number slice c (place_of rest) known ∙ ap (λ (r : List ℕ). place_at slice c (place_of r)) follows ∙ sym place)
    ∙ ap (λ (ss : List ℕ). place_cmp (place_of bytes) (place_from class ss)) same
    ∙ ap (λ (v : CursorView). place_cmp (place_of bytes) v.at) (restarted slices class depth within old is)
