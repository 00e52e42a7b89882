-- What is absent from a border is absent from each part of it, and belongs there at its place.
use Rattle.std.proofs.Common.{ℕ, ◌≡◌, ◌≢◌, ◌<◌, ◌≤◌, ◌+◌, ◌-◌, List, length, take, drop, get_or, slice_get, Some, inl, inr, refl, sym, ap, subst, arith}
use Rattle.std.specs.List.{All}
use Rattle.std.proofs.lemmas.Bool.{cases_lt}
use Rattle.std.proofs.lemmas.Option.{get_or_from_slice_get, slice_get_within}
use Rattle.std.proofs.lemmas.List.{get_or-take, get_or-drop, length-take-le, length-drop}
use Rattle.std.proofs.lemmas.List.Elements.{All-take, All-drop}
use Rattle.mt_slice.proofs.ClassNumbers.{class_number-below, IsClass-class_of}
use Rattle.mt_slice.specs.Place.{slice_number}
use Rattle.mt_slice.specs.Classes.{class_number, class_of}
use Rattle.mt_border.specs.Entry.{content_class, entry_rank, rank_at}
use Rattle.mt_border.specs.Table.{blank_slot}
use Rattle.mt_border.proofs.BorderLemmas.{ordered_take}
use Rattle.mt_border.proofs.CutLemmas.{class_below}
use Rattle.mt_border.specs.Order.{AreEntries, IsOrdered}
use Rattle.mt_border.specs.declared.entry.Entry.{Entry}
use Rattle.mt_border.specs.declared.found.Found.{Found}
use Rattle.mt_border.specs.declared.found.Found.TheVariants.{Absent, Row as RowFound, OtherSuffix, Link as LinkFound}
use Rattle.mt_border.proofs.ShowLemmas.{IsBetween, between_from_absent}
use Rattle.mt_tree.specs.Descent.{found_for}
use Rattle.mt_tree.proofs.FoundLemmas.{found_one, all_among}
use Rattle.mt_write.specs.Writing.{IsAbsent}

-- no entry has the rank of the rest
abbrev pub NoneHas : List ℕ → List Entry → Type 0
NoneHas rest live = All (λ (e : Entry). entry_rank e ≢ rank_at (slice_number rest) (class_of (length rest))) live

pub none_has : (rest : List ℕ) (live : List Entry) → IsOrdered live → IsAbsent (found_for rest live) → NoneHas rest live
none_has rest live ordered absent = go (found_for rest live) refl absent
  where
    go : (found : Found) → found_for rest live ≡ found → IsAbsent found → NoneHas rest live
    go (Absent place) e none = λ k d within same.
        let between = between_from_absent (slice_number rest) (class_of (length rest)) (drop 8 rest) live place ordered e in
        elim (cases_lt k place) [
          | inl low ↦ (let less = between.below k d low in omega (arith, less, same))
          | inr high ↦ (let more = between.above k d high within in omega (arith, more, same))
        ]
    go (RowFound place) e none = absurd none
    go (OtherSuffix place) e none = absurd none
    go (LinkFound place top) e none = absurd none

pub absent_part : (rest : List ℕ) (live : List Entry) → NoneHas rest live → IsAbsent (found_for rest live)
absent_part rest live all = go (found_for rest live) refl
  where
    never : (found : Found) → found_for rest live ≡ found → ((place : ℕ) → found ≡ Absent place → ⊥) → ⊥
    never found e there =
        let f = found_one (slice_number rest) (class_of (length rest)) (drop 8 rest) live found e there in
        all_among (λ (x : Entry). entry_rank x ≢ rank_at (slice_number rest) (class_of (length rest))) f.entry live all f.stands f.rank

    go : (found : Found) → found_for rest live ≡ found → IsAbsent found
    go (Absent place) e = tt
    go (RowFound place) e = absurd (never (RowFound place) e (λ k clash. cc))
    go (OtherSuffix place) e = absurd (never (OtherSuffix place) e (λ k clash. cc))
    go (LinkFound place top) e = absurd (never (LinkFound place top) e (λ k clash. cc))

-- ---- its place
-- one place alone is after what comes before a rank and before what comes after it
one_place : (rank : ℕ) (live : List Entry) (one other : ℕ) → IsBetween rank one live → IsBetween rank other live → one ≡ other
one_place rank live one other a b = elim (cases_lt one other) [
  | inl less ↦ absurd (let d : Entry = blank_slot.entry in let within = b.within in let low = b.below one d less in let high = a.above one d (omega arith) (omega (arith, less, within)) in omega (arith, low, high))
  | inr most ↦ elim (cases_lt other one) [
    | inl less ↦ absurd (let d : Entry = blank_slot.entry in let within = a.within in let low = a.below other d less in let high = b.above other d (omega arith) (omega (arith, less, within)) in omega (arith, low, high))
    | inr least ↦ omega (arith, most, least)
  ]
]

-- so it is found absent there
absent_at : (rest : List ℕ) (live : List Entry) (place : ℕ) → IsOrdered live → IsAbsent (found_for rest live) → IsBetween (rank_at (slice_number rest) (class_of (length rest))) place live → found_for rest live ≡ Absent place
absent_at rest live place ordered absent between = go (found_for rest live) refl absent
  where
    go : (found : Found) → found_for rest live ≡ found → IsAbsent found → found ≡ Absent place
    go (Absent other) e none =
        let own = between_from_absent (slice_number rest) (class_of (length rest)) (drop 8 rest) live other ordered e in
        ap Absent (one_place (rank_at (slice_number rest) (class_of (length rest))) live other place own between)
    go (RowFound place) e none = absurd none
    go (OtherSuffix place) e none = absurd none
    go (LinkFound place top) e none = absurd none

ordered_from : (live : List Entry) (i : ℕ) → IsOrdered live → IsOrdered (drop i live)
ordered_from live i o = record {
  pairs = λ p q d before within.
      let short : length (drop i live) ≡ length live - i = length-drop i live in
      rw (get_or-drop i live p d, get_or-drop i live q d) (o.pairs (i + p) (i + q) d (omega arith) (omega (arith, short, within)));
}

-- what is absent from entries that are cut in two is absent from both parts, and belongs to one of them, by the least slice of
-- the upper part
pub record IsParted (rest : List ℕ) (live : List Entry) (cut place low : ℕ) : Type 0 where
  pub lower : slice_number rest < low → found_for rest (take cut live) ≡ Absent place
  pub upper : low ≤ slice_number rest → found_for rest (drop cut live) ≡ Absent (place - cut)

module _ (rest : List ℕ) (live : List Entry) (cut place : ℕ) (middle : Entry) (ordered : IsOrdered live) (whole : AreEntries live) (is_middle : slice_get live cut ≡ Some middle)
    (apart : (k : ℕ) (d : Entry) → k < cut → (get_or live k d).slice < middle.slice) (absent : found_for rest live ≡ Absent place) where
  abbrev rank : ℕ
  rank = rank_at (slice_number rest) (class_of (length rest))

  abbrev blank : Entry
  blank = blank_slot.entry

  between : IsBetween rank place live
  between = between_from_absent (slice_number rest) (class_of (length rest)) (drop 8 rest) live place ordered absent

  inside : cut < length live
  inside = slice_get_within live cut middle is_middle

  none : NoneHas rest live
  none = none_has rest live ordered (subst IsAbsent (sym absent) tt)

  few : class_number (class_of (length rest)) < 10
  few = class_number-below (class_of (length rest)) (IsClass-class_of (length rest))

  -- below the least slice of the upper part
  early : slice_number rest < middle.slice → place ≤ cut
  early less = elim (cases_lt cut place) [
    | inl past ↦ absurd (let first : get_or live cut blank ≡ middle = get_or_from_slice_get live cut middle blank is_middle in
        let low : entry_rank (get_or live cut blank) < rank = between.below cut blank past in
        let same : entry_rank (get_or live cut blank) ≡ entry_rank middle = ap entry_rank first in
        omega (arith, less, low, same, few))
    | inr most ↦ most
  ]

  -- and from it on
  late : middle.slice ≤ slice_number rest → cut ≤ place
  late from = elim (cases_lt place cut) [
    | inl early ↦ absurd (let k : ℕ = cut - 1 in
        let last : k < length live = omega (arith, inside) in
        let high : rank < entry_rank (get_or live k blank) = between.above k blank (omega (arith, early)) last in
        let less : (get_or live k blank).slice < middle.slice = apart k blank (omega (arith, early)) in
        let own : class_number (content_class (get_or live k blank).content) ≤ 9 = class_below (get_or live k blank).content (whole.each k blank last).content in
        omega (arith, from, high, less, own))
    | inr least ↦ least
  ]

  pub parted : IsParted rest live cut place middle.slice
  parted = record {
    lower = λ less.
        let short : length (take cut live) ≡ cut = length-take-le cut live (omega (arith, inside)) in
        let most = early less in
        absent_at rest (take cut live) place (ordered_take live cut (omega (arith, inside)) ordered) (absent_part rest (take cut live) (All-take (λ (e : Entry). entry_rank e ≢ rank) cut live none)) (record {
          within = omega (arith, short, most);
          below = λ k d before. rw (get_or-take cut live k d (omega (arith, before, most))) (between.below k d before);
          above = λ k d after within. rw (get_or-take cut live k d (omega (arith, short, within))) (between.above k d after (omega (arith, short, within, inside)));
        });
    upper = λ from.
        let short : length (drop cut live) ≡ length live - cut = length-drop cut live in
        let least = late from in
        let fits = between.within in
        absent_at rest (drop cut live) (place - cut) (ordered_from live cut ordered) (absent_part rest (drop cut live) (All-drop (λ (e : Entry). entry_rank e ≢ rank) cut live none)) (record {
          within = omega (arith, short, least, fits);
          below = λ k d before. rw (get_or-drop cut live k d) (between.below (cut + k) d (omega (arith, before, least)));
          above = λ k d after within. rw (get_or-drop cut live k d) (between.above (cut + k) d (omega (arith, after, least)) (omega (arith, short, within)));
        });
  }
