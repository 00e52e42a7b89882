-- The first line of a text, as a source takes it.
use Rattle.std.proofs.Common.{◌≡◌, ◌≢◌, inl, inr, ℕ, ◌<◌, ◌≤◌, ◌+◌, ◌++◌, List, [], ◌∷◌, length, drop, length-append, length-drop, cond, eqb, true, false, Bool, refl, ap, sym, subst, ◌∙◌, arith, Option, None, Some, IfSome, ne_eqb, eq-eqb, eqb-true, append_assoc, append-nil}
use Rattle.std.proofs.lemmas.List.Elements.{All-nil, All-cons, All-head, All-tail, All-append}
use Rattle.std.proofs.Math.Seq.{drop-append-add}
use Rattle.std.proofs.Math.ListN.{drop_of_length-le}
use lib.Seq.{drop-drop}
use Rattle.std.specs.List.{onto_first}
use Rattle.std.specs.Io.KnownBytes.{Consumes, Keeps, IsAtEnd, prepend_known}
use Rattle.mt_script.specs.Words.{word_at, ◌>>=◌}
use Rattle.mt_script.specs.Lines.{lines_of, HasNoFeed, Takes, LosesLine, LosesNoLine}

other : (b : ℕ) (bs : List ℕ) → b ≢ 10 → lines_of (b ∷ bs) ≡ onto_first b (lines_of bs)
other b bs h = ap (λ t. cond t ([] ∷ lines_of bs) (onto_first b (lines_of bs))) (ne_eqb b 10 h)

pub first_line : (line rest : List ℕ) → HasNoFeed line → lines_of (line ++ 10 ∷ rest) ≡ line ∷ lines_of rest
first_line [] rest none = refl
first_line (b ∷ bs) rest none =
    other b (bs ++ 10 ∷ rest) (All-head (λ (x : ℕ). x ≢ 10) b bs none) ∙ ap (onto_first b) (first_line bs rest (All-tail (λ (x : ℕ). x ≢ 10) b bs none))

pub last_line : (line : List ℕ) → HasNoFeed line → 0 < length line → lines_of line ≡ line ∷ []
last_line [] none some = absurd (omega arith)
last_line (b ∷ []) none some = other b [] (All-head (λ (x : ℕ). x ≢ 10) b [] none)
last_line (b ∷ (c ∷ cs)) none some =
    other b (c ∷ cs) (All-head (λ (x : ℕ). x ≢ 10) b (c ∷ cs) none) ∙ ap (onto_first b) (last_line (c ∷ cs) (All-tail (λ (x : ℕ). x ≢ 10) b (c ∷ cs) none) (omega arith))

-- ---- what a search for a line feed finds
abbrev onto : ℕ → Option (List ℕ × List ℕ) → Option (List ℕ × List ℕ)
onto b o = o >>= λ y. Some (b ∷ y.0, y.1)

abbrev Found : List ℕ → List ℕ × List ℕ → Type 0
Found xs x = HasNoFeed x.0 × (xs ≡ x.0 ++ 10 ∷ x.1)

found_later : (b : ℕ) (bs : List ℕ) (o : Option (List ℕ × List ℕ)) (x : List ℕ × List ℕ) → b ≢ 10 → ((y : List ℕ × List ℕ) → o ≡ Some y → Found bs y)
    → onto b o ≡ Some x → Found (b ∷ bs) x
found_later b bs None x ne later e = absurd (cc)
found_later b bs (Some y) x ne later e =
    let h = later y refl in
    let same : (b ∷ y.0, y.1) ≡ x = cc in
    subst (Found (b ∷ bs)) same (All-cons (λ (z : ℕ). z ≢ 10) b y.0 ne h.0, ap (λ (l : List ℕ). b ∷ l) h.1)

ne_of : (b : ℕ) → eqb b 10 ≡ false → b ≢ 10
ne_of b is same = let feed = eq-eqb b 10 same in absurd (cc)

found_at : (b : ℕ) (t : Bool) → eqb b 10 ≡ t → (bs : List ℕ) (x : List ℕ × List ℕ) → ((y : List ℕ × List ℕ) → word_at 10 bs ≡ Some y → Found bs y)
    → cond t (Some ([], bs)) (onto b (word_at 10 bs)) ≡ Some x → Found (b ∷ bs) x
found_at b true is bs x later e =
    let same : ([], bs) ≡ x = cc in
    subst (Found (b ∷ bs)) same (All-nil (λ (z : ℕ). z ≢ 10), ap (λ (n : ℕ). n ∷ bs) (eqb-true b 10 is))
found_at b false is bs x later e = found_later b bs (word_at 10 bs) x (ne_of b is) later e

pub found : (xs : List ℕ) (x : List ℕ × List ℕ) → word_at 10 xs ≡ Some x → Found xs x
found [] x e = absurd (cc)
found (b ∷ bs) x e = found_at b (eqb b 10) refl bs x (found bs) e

none_later : (b : ℕ) (bs : List ℕ) (o : Option (List ℕ × List ℕ)) → b ≢ 10 → (o ≡ None → HasNoFeed bs) → onto b o ≡ None → HasNoFeed (b ∷ bs)
none_later b bs None ne later e = All-cons (λ (z : ℕ). z ≢ 10) b bs ne (later refl)
none_later b bs (Some y) ne later e = absurd (cc)

none_at : (b : ℕ) (t : Bool) → eqb b 10 ≡ t → (bs : List ℕ) → (word_at 10 bs ≡ None → HasNoFeed bs) → cond t (Some ([], bs)) (onto b (word_at 10 bs)) ≡ None → HasNoFeed (b ∷ bs)
none_at b true is bs later e = absurd (cc)
none_at b false is bs later e = none_later b bs (word_at 10 bs) (ne_of b is) later e

pub not_found : (xs : List ℕ) → word_at 10 xs ≡ None → HasNoFeed xs
not_found [] e = All-nil (λ (z : ℕ). z ≢ 10)
not_found (b ∷ bs) e = none_at b (eqb b 10) refl bs (not_found bs) e

-- ---- a line that is being taken: these bytes so far, and none of them a line feed
pub record IsTaking (old : Option (List ℕ)) (line : List ℕ) (kept : List ℕ) (unread : Option (List ℕ)) : Type 0 where
  pub feedless : HasNoFeed line
  pub goes : IfSome old (λ xs. (left : List ℕ) × (unread ≡ Some left) × (xs ≡ line ++ (kept ++ left)))

-- all that was kept is taken
pub taking_kept : (old unread : Option (List ℕ)) (line kept front more rest : List ℕ) → IsTaking old line kept unread → HasNoFeed front → kept ≡ front → rest ≡ [] → more ≡ line ++ front → IsTaking old more rest unread
taking_kept old unread line kept front more rest taking none all empty is = record {
  feedless = subst HasNoFeed (sym is) (All-append (λ (z : ℕ). z ≢ 10) line front taking.feedless none);
  goes = onward old taking.goes;
}
  where
    onward : (o : Option (List ℕ)) → IfSome o (λ xs. (left : List ℕ) × (unread ≡ Some left) × (xs ≡ line ++ (kept ++ left)))
        → IfSome o (λ xs. (left : List ℕ) × (unread ≡ Some left) × (xs ≡ more ++ (rest ++ left)))
    onward None h = tt
    onward (Some xs) h = (
      h.0,
      h.1,
      h.2 ∙ ap (λ (l : List ℕ). line ++ (l ++ h.0)) all ∙ sym (append_assoc line front h.0) ∙ ap (λ (l : List ℕ). l ++ h.0) (sym is) ∙ ap (λ (l : List ℕ). more ++ (l ++ h.0)) (sym empty),
    )

-- a piece more is read, when nothing is kept
pub taking_piece : (old unread next : Option (List ℕ)) (line kept piece : List ℕ) → IsTaking old line kept unread → kept ≡ [] → Consumes unread next piece → IsTaking old line piece next
taking_piece old unread next line kept piece taking empty took = record { feedless = taking.feedless; goes = onward old unread next taking.goes took }
  where
    onward : (o u n : Option (List ℕ)) → IfSome o (λ xs. (left : List ℕ) × (u ≡ Some left) × (xs ≡ line ++ (kept ++ left))) → Consumes u n piece
        → IfSome o (λ xs. (left : List ℕ) × (n ≡ Some left) × (xs ≡ line ++ (piece ++ left)))
    onward None u n h c = tt
    onward (Some xs) None n h c = absurd (cc h.1)
    onward (Some xs) (Some ys) None h c = absurd c
    onward (Some xs) (Some ys) (Some zs) h c =
        let same : ys ≡ h.0 = cc h.1 in
        (zs, refl, h.2 ∙ ap (λ (l : List ℕ). line ++ (l ++ h.0)) empty ∙ ap (λ (l : List ℕ). line ++ l) (sym same ∙ c))

-- a line feed came
pub loses_line : (old unread : Option (List ℕ)) (line kept front more rest : List ℕ) → IsTaking old line kept unread → HasNoFeed front → kept ≡ front ++ 10 ∷ rest → more ≡ line ++ front
    → IfSome old (λ xs. LosesLine xs (prepend_known rest unread) (Some more))
loses_line None unread line kept front more rest taking none is made = tt
loses_line (Some xs) None line kept front more rest taking none is made = let h = taking.goes in absurd (cc h.1)
loses_line (Some xs) (Some left) line kept front more rest taking none is made =
    let h = taking.goes in
    let same : left ≡ h.0 = cc h.1 in
    let feedless : HasNoFeed more = subst HasNoFeed (sym made) (All-append (λ (z : ℕ). z ≢ 10) line front taking.feedless none) in
    let whole : xs ≡ more ++ 10 ∷ (rest ++ left) =
    h.2 ∙ ap (λ (l : List ℕ). line ++ (kept ++ l)) (sym same) ∙ ap (λ (l : List ℕ). line ++ (l ++ left)) is ∙ ap (λ (l : List ℕ). line ++ l) (append_assoc front (10 ∷ rest) left)
    ∙ sym (append_assoc line front (10 ∷ (rest ++ left))) ∙ ap (λ (l : List ℕ). l ++ 10 ∷ (rest ++ left)) (sym made) in (
      rest ++ left,
      refl,
      ap lines_of whole ∙ first_line more (rest ++ left) feedless,
      (feedless, inl (whole ∙ sym (append_assoc more (10 ∷ []) (rest ++ left)))),
    )

-- the input ended in the line
pub loses_last : (old unread : Option (List ℕ)) (line kept : List ℕ) → IsTaking old line kept unread → kept ≡ [] → IsAtEnd unread → 0 < length line
    → IfSome old (λ xs. LosesLine xs (prepend_known kept unread) (Some line))
loses_last None unread line kept taking empty end some = tt
loses_last (Some xs) None line kept taking empty end some = let h = taking.goes in absurd (cc h.1)
loses_last (Some xs) (Some left) line kept taking empty end some =
    let h = taking.goes in
    let same : left ≡ h.0 = cc h.1 in
    let rest : kept ++ left ≡ [] = ap (λ (l : List ℕ). l ++ left) empty ∙ end in
    let whole : xs ≡ line = h.2 ∙ ap (λ (l : List ℕ). line ++ (kept ++ l)) (sym same) ∙ ap (λ (l : List ℕ). line ++ l) rest ∙ append-nil line in (
      kept ++ left,
      refl,
      ap lines_of whole ∙ last_line line taking.feedless some ∙ ap (λ (l : List ℕ). line ∷ lines_of l) (sym rest),
      (taking.feedless, inr (whole, (λ none. omega (arith, some, ap length none)), rest)),
    )

-- the input ended between lines
pub loses_none : (old unread : Option (List ℕ)) (line kept : List ℕ) → IsTaking old line kept unread → kept ≡ [] → IsAtEnd unread → line ≡ []
    → IfSome old (λ xs. lines_of xs ≡ [])
loses_none None unread line kept taking empty end none = tt
loses_none (Some xs) None line kept taking empty end none = let h = taking.goes in absurd (cc h.1)
loses_none (Some xs) (Some left) line kept taking empty end none =
    let h = taking.goes in
    let same : left ≡ h.0 = cc h.1 in
    ap lines_of (h.2 ∙ ap (λ (l : List ℕ). l ++ (kept ++ h.0)) none ∙ ap (λ (l : List ℕ). l ++ h.0) empty ∙ sym same ∙ end)

-- a read failed in the line
pub loses_no_line : (old unread next : Option (List ℕ)) (line kept : List ℕ) → IsTaking old line kept unread → kept ≡ [] → Keeps unread next → IfSome old (LosesNoLine next)
loses_no_line None unread next line kept taking empty kept_so = tt
loses_no_line (Some xs) None next line kept taking empty kept_so = let h = taking.goes in absurd (cc h.1)
loses_no_line (Some xs) (Some left) None line kept taking empty kept_so = absurd kept_so
loses_no_line (Some xs) (Some left) (Some after) line kept taking empty kept_so =
    let h = taking.goes in
    let same : left ≡ h.0 = cc h.1 in
    (line, after, refl, h.2 ∙ ap (λ (l : List ℕ). line ++ (l ++ h.0)) empty ∙ ap (λ (l : List ℕ). line ++ l) (sym same ∙ sym kept_so), taking.feedless)

-- ---- what is taken of the bytes that are kept
pub takes_feed : (items : List ℕ) (from : ℕ) (kept front rest : List ℕ) → kept ≡ drop from items → word_at 10 kept ≡ Some (front, rest) → Takes (drop from items) (drop (from + (length front + 1)) items) front true
takes_feed items from kept front rest same e =
    let h = found kept (front, rest) e in
    let whole : drop from items ≡ front ++ 10 ∷ rest = sym same ∙ h.1 in (
      h.0,
      whole ∙ ap (λ (l : List ℕ). front ++ 10 ∷ l)
          (sym (sym (drop-drop (length front + 1) from items) ∙ ap (drop (length front + 1)) whole ∙ drop-append-add front (10 ∷ rest) 1)),
    )

pub takes_within : (items : List ℕ) (from : ℕ) (kept front rest : List ℕ) → kept ≡ drop from items → word_at 10 kept ≡ Some (front, rest) → from + (length front + 1) ≤ length items
takes_within items from kept front rest same e =
    let h = found kept (front, rest) e in
    let long = ap length (sym same ∙ h.1) in
    let all = length-append front (10 ∷ rest) in
    omega (arith, long, all, length-drop from items)

pub takes_all : (items : List ℕ) (from n : ℕ) (kept : List ℕ) → kept ≡ drop from items → word_at 10 kept ≡ None → n ≡ length items → Takes (drop from items) (drop n items) kept false
takes_all items from n kept same e all = (not_found kept e, sym same, drop_of_length-le items (omega (arith, all)))
