-- What a search in the border of a key tells of the tree.
use Rattle.std.proofs.Common.{ℕ, zero, suc, ◌≡◌, ◌≢◌, ◌<◌, ◌≤◌, ◌==◌, inl, inr, Bool, true, false, nat_eq, nat_lt, if◌then◌else◌, List, [], ◌∷◌, length, drop, slice_get, Option, Some, IsSome, refl, sym, ap, subst, ◌∙◌, arith}
use Rattle.std.specs.Cmp.Lexicographic.{pointwise, bytes_decides}
use Rattle.std.proofs.lemmas.Bool.{cases_lt, le-leb, lt-leb}
use Rattle.std.proofs.lemmas.List.Sums.{prefix_len-le-length}
use Rattle.mt_types.specs.declared.row.Row.{Row}
use Rattle.mt_types.specs.declared.numbers.NodeNo.{NodeNo}
use Rattle.mt_slice.specs.Place.{Place, last, deeper, AreBytes, first_slice, place_of, slice_number}
use Rattle.mt_slice.specs.Classes.{class_number, class_of}
use Rattle.mt_slice.specs.declared.slice_class.Class.TheVariants.{Len, Long as LongClass}
use Rattle.mt_slice.proofs.PlaceOn.{place_of-short, place_of-long}
use Rattle.mt_slice.proofs.Canonical.{same_from_place_of}
use Rattle.mt_slice.proofs.Slices.{bytes-drop}
use Rattle.mt_border.specs.Border.{BorderView, row_at, first_row}
use Rattle.mt_border.specs.Entry.{entry_rank, rank_at, content_row, content_class, IsContent, IsEntry}
use Rattle.mt_border.specs.Find.{entries_before, found_first, found_content}
use Rattle.mt_border.specs.Order.{IsBorder}
use Rattle.mt_border.specs.declared.entry.Content.{Content}
use Rattle.mt_border.specs.declared.entry.Content.TheVariants.{Short, Long, Link}
use Rattle.mt_border.specs.declared.entry.Entry.{Entry}
use Rattle.mt_border.specs.declared.found.Found.{Found}
use Rattle.mt_border.specs.declared.found.Found.TheVariants.{Absent, Row as RowFound, OtherSuffix, Link as LinkFound}
use Rattle.mt_arena.specs.Node.{border_at}
use Rattle.mt_arena.specs.Arena.{ArenaView}
use Rattle.mt_chart.specs.Tree.{HoldsRow, link}
use Rattle.mt_chart.specs.Tree.{PlainEntry}
use Rattle.mt_chart.specs.TreeLaws.{HasEntry, GoesOnAtALink}
use Rattle.mt_chart.proofs.TreeLemmas.{at_their_places}
use Rattle.mt_tree.specs.Seen.{arena_seen, border_seen, entry_seen, content_seen, content_place}
use Rattle.mt_tree.specs.Descent.{found_for, row_found, IsLast, IsFoundAt, TellsRow}
use Rattle.mt_tree.proofs.SeenLemmas.{among_map, among_unmap}
use Rattle.mt_tree.proofs.FoundLemmas.{found_among, found_one, all_among}
use Rattle.mt_tree.proofs.DescentLemmas.{rank_tells, slice_of_place, class_long, link_found}

-- the ranks agree, where slice and class do
same_rank : (rest : List ℕ) (entry : Entry) → entry.slice ≡ slice_number rest → class_number (content_class entry.content) ≡ class_number (class_of (length rest)) → entry_rank entry ≡ rank_at (slice_number rest) (class_of (length rest))
same_rank rest entry x y = omega (arith, x, y)

class_short : (n : ℕ) → n ≤ 8 → class_number (class_of n) ≡ n
class_short n h = ap (λ b. class_number (if b then Len n else LongClass)) (le-leb n 8 h)

class_over : (n : ℕ) → 8 < n → class_number (class_of n) ≡ 9
class_over n h = ap (λ b. class_number (if b then Len n else LongClass)) (lt-leb n 8 h)

-- if a content holds a row at the place of a key's rest, it has the rest's slice and class, and a search finds it
record Fits (rest : List ℕ) (slice : ℕ) (content : Content) (row : Row) : Type 0 where
  pub slices : slice ≡ slice_number rest
  pub classes : class_number (content_class content) ≡ class_number (class_of (length rest))
  pub has_row : content_row content ≡ Some row
  pub found : (place : ℕ) → found_content (drop 8 rest) place content ≡ RowFound place

fits : (rest : List ℕ) → AreBytes rest → (slice : ℕ) (content : Content) (row : Row) → IsContent content → HoldsRow slice (content_seen content) (place_of rest) row → Fits rest slice content row
fits rest bytes slice (Short n here) row whole (at, same) = elim (cases_lt 8 (length rest)) [
  | inl over ↦ absurd (let clash : deeper (slice_number rest) (place_of (drop 8 rest)) ≡ last slice n = sym (place_of-long rest over) ∙ at in cc)
  | inr within ↦ (let is : last (slice_number rest) (length rest) ≡ last slice n = sym (place_of-short rest within) ∙ at in
      let count : length rest ≡ n = cc in
      record { slices = (cc); classes = sym count ∙ sym (class_short (length rest) within); has_row = ap Some same; found = λ place. refl })
]
fits rest bytes slice (Long suffix here) row whole (at, same) = elim (cases_lt 8 (length rest)) [
  | inl over ↦ (let is : deeper (slice_number rest) (place_of (drop 8 rest)) ≡ deeper slice (place_of suffix) = sym (place_of-long rest over) ∙ at in
      let places : place_of suffix ≡ place_of (drop 8 rest) = cc in
      let held : suffix ≡ drop 8 rest = same_from_place_of suffix (drop 8 rest) whole.1 (bytes-drop 8 rest bytes) places in
      record {
        slices = (cc);
        classes = sym (class_over (length rest) over);
        has_row = ap Some same;
        found = λ place. ap (λ b. if b then RowFound place else OtherSuffix place) ((bytes_decides suffix (drop 8 rest)).1 held);
      })
  | inr within ↦ absurd (let clash : last (slice_number rest) (length rest) ≡ deeper slice (place_of suffix) = sym (place_of-short rest within) ∙ at in cc)
]
fits rest bytes slice (Link top) row whole never = absurd never

same_suffix : (same : Bool) (i j : ℕ) → (if same then RowFound i else OtherSuffix i) ≡ RowFound j → (same ≡ true) × (i ≡ j)
same_suffix true i j e = (refl, cc)
same_suffix false i j e = absurd (cc)

place_found : (suffix : List ℕ) (i j : ℕ) (content : Content) → found_content suffix i content ≡ RowFound j → i ≡ j
place_found suffix i j (Short n here) e = cc
place_found suffix i j (Long held here) e = (same_suffix (pointwise nat_eq held suffix) i j e).1
place_found suffix i j (Link top) e = absurd (cc)

-- and back
holds : (rest : List ℕ) (slice i j : ℕ) (content : Content) (row : Row) → IsContent content → slice ≡ slice_number rest → class_number (content_class content) ≡ class_number (class_of (length rest)) →
    found_content (drop 8 rest) i content ≡ RowFound j → content_row content ≡ Some row → HoldsRow slice (content_seen content) (place_of rest) row
holds rest slice i j (Short n here) row whole slices classes found has = elim (cases_lt 8 (length rest)) [
  | inl over ↦ absurd (omega (arith, classes, class_over (length rest) over, whole))
  | inr within ↦ (let count : n ≡ length rest = classes ∙ class_short (length rest) within in
      (place_of-short rest within ∙ (ap (λ (s : ℕ). last s (length rest)) (sym slices) ∙ ap (last slice) (sym count)), cc))
]
holds rest slice i j (Long suffix here) row whole slices classes found has =
    let same = (same_suffix (pointwise nat_eq suffix (drop 8 rest)) i j found).0 in
    let held : suffix ≡ drop 8 rest = (bytes_decides suffix (drop 8 rest)).0 same in
    (place_of-long rest (class_long (length rest) (sym classes)) ∙ (ap (λ (s : ℕ). deeper s (place_of (drop 8 rest))) (sym slices) ∙ ap (λ (k : List ℕ). deeper slice (place_of k)) (sym held)), cc)
holds rest slice i j (Link top) row whole slices classes found has = absurd (cc)

-- the entry of a row at the place, and the row that was found, are one
module _ (b : BorderView) (sound : IsBorder b) (rest : List ℕ) (bytes : AreBytes rest) where
  abbrev at : ℕ
  at = entries_before (slice_number rest) (class_of (length rest)) b.live

  row_there : (entry : Entry) (more : List Entry) → drop at b.live ≡ entry ∷ more → row_at at b.live ≡ content_row entry.content
  row_there entry more e = ap first_row e

  found-from_entry : (row : Row) → HasEntry (border_seen b) (place_of rest) row → row_found b.live (found_for rest b.live) ≡ Some row
  found-from_entry row (seen, i, holds_row) =
      let s = among_unmap entry_seen seen b.live i in
      let f = fits rest bytes s.source.slice s.source.content row (all_among IsEntry s.source b.live sound.entries.each s.stands).content (subst (λ (p : PlainEntry). HoldsRow p.slice p.content (place_of rest) row) (sym s.is) holds_row) in
      let (found, after) = found_among (slice_number rest) (class_of (length rest)) (drop 8 rest) s.source b.live sound.ordered s.stands (same_rank rest s.source f.slices f.classes) in
      ap (row_found b.live) (found ∙ f.found at) ∙ (row_there s.source after.0 after.1 ∙ f.has_row)

  entry-from_found : (row : Row) (found : Found) → found_for rest b.live ≡ found → row_found b.live found ≡ Some row → HasEntry (border_seen b) (place_of rest) row
  entry-from_found row (Absent place) e has = absurd (cc)
  entry-from_found row (OtherSuffix place) e has = absurd (cc)
  entry-from_found row (LinkFound place top) e has = absurd (cc)
  entry-from_found row (RowFound place) e has =
      let f = found_one (slice_number rest) (class_of (length rest)) (drop 8 rest) b.live (RowFound place) e (λ k clash. cc) in
      let whole = all_among IsEntry f.entry b.live sound.entries.each f.stands in
      let (slices, classes) = rank_tells rest f.entry whole f.rank in
      let here = place_found (drop 8 rest) at place f.entry.content f.is in (
        entry_seen f.entry,
        among_map entry_seen f.entry b.live f.stands,
        holds rest f.entry.slice at place f.entry.content row whole.content slices classes f.is (sym (row_there f.entry f.more f.starts) ∙ (ap (λ (k : ℕ). row_at k b.live) here ∙ has)),
      )

  -- a link that leads on is what is found
  link_content : (content : Content) (next : ℕ) → content_seen content ≡ link next → (top : NodeNo) × (content ≡ Link top)
  link_content (Short n row) next e = absurd (cc)
  link_content (Long suffix row) next e = absurd (cc)
  link_content (Link top) next e = (top, refl)

  no_link : IsLast (found_for rest b.live) → GoesOnAtALink (border_seen b) (place_of rest) → ⊥
  no_link ends (inner, next, is, i) =
      let s = among_unmap entry_seen (record { slice = first_slice (place_of rest); content = link next }) b.live i in
      let (top, content) = link_content s.source.content next (ap (λ (p : PlainEntry). p.content) s.is) in
      let slices : s.source.slice ≡ slice_number rest = ap (λ (p : PlainEntry). p.slice) s.is ∙ slice_of_place rest in
      let classes = ap (λ (c : Content). class_number (content_class c)) content ∙ sym (class_over (length rest) (longer inner is)) in
      let (found, after) = found_among (slice_number rest) (class_of (length rest)) (drop 8 rest) s.source b.live sound.ordered s.stands (same_rank rest s.source slices classes) in
      subst IsLast (found ∙ ap (found_content (drop 8 rest) at) content) ends
    where
      longer : (inner : Place) → place_of rest ≡ deeper (first_slice (place_of rest)) inner → 8 < length rest
      longer inner e = elim (cases_lt 8 (length rest)) [
        | inl over ↦ over
        | inr within ↦ absurd (let clash : last (slice_number rest) (length rest) ≡ deeper (first_slice (place_of rest)) inner = sym (place_of-short rest within) ∙ e in cc)
      ]

pub tells_row : (a : ArenaView) (number : ℕ) (rest : List ℕ) (b : BorderView) → border_at a.nodes number ≡ Some b → IsBorder b → AreBytes rest → TellsRow a number rest (found_for rest b.live)
tells_row a number rest b named sound bytes = record {
  tells = λ now twins chart prefix index here ends row.
      let same : b ≡ here.border = let both : ◌≡◌ {A = Option BorderView} (Some b) (Some here.border) = sym named ∙ here.named in cc in
      let whole = subst IsBorder same sound in
      let found : found_for rest b.live ≡ found_for rest here.border.live = ap (λ (x : BorderView). found_for rest x.live) same in
      let (to, from) = at_their_places (arena_seen a) chart number prefix (border_seen here.border) (place_of rest) index.tree here.stands (no_link here.border whole rest bytes (subst IsLast found ends)) row in (
        λ has. ap (row_found here.border.live) found ∙ found-from_entry here.border whole rest bytes row (to has),
        λ is. from (entry-from_found here.border whole rest bytes row (found_for rest here.border.live) refl (sym (ap (row_found here.border.live) found) ∙ is)),
      );
}

-- what was found is at its place
stands_dropped : (place : ℕ) (live : List Entry) (entry : Entry) (more : List Entry) → drop place live ≡ entry ∷ more → slice_get live place ≡ Some entry
stands_dropped zero [] entry more e = absurd (cc)
stands_dropped (suc place) [] entry more e = absurd (cc)
stands_dropped zero (x ∷ xs) entry more e = cc
stands_dropped (suc place) (x ∷ xs) entry more e = stands_dropped place xs entry more e

held_place : (slice : ℕ) (content : Content) (place : Place) (row : Row) → HoldsRow slice (content_seen content) place row → content_place slice content ≡ place
held_place slice (Short n here) place row (at, same) = sym at
held_place slice (Long suffix here) place row (at, same) = sym at
held_place slice (Link top) place row never = absurd never

row_content : (suffix : List ℕ) (i j : ℕ) (content : Content) → found_content suffix i content ≡ RowFound j → (row : Row) × (content_row content ≡ Some row)
row_content suffix i j (Short n row) e = (row, refl)
row_content suffix i j (Long held row) e = (row, refl)
row_content suffix i j (Link top) e = absurd (cc)

other_suffix : (same : Bool) (i j : ℕ) → (if same then RowFound i else OtherSuffix i) ≡ OtherSuffix j → (same ≡ false) × (i ≡ j)
other_suffix true i j e = absurd (cc)
other_suffix false i j e = (refl, cc)

record OtherContent (suffix : List ℕ) (i j : ℕ) (content : Content) : Type 0 where
  pub held : List ℕ
  pub row : Row
  pub is : content ≡ Long held row
  pub at : i ≡ j
  pub other : held ≢ suffix

other_content : (suffix : List ℕ) (i j : ℕ) (content : Content) → found_content suffix i content ≡ OtherSuffix j → OtherContent suffix i j content
other_content suffix i j (Short n row) e = absurd (cc)
other_content suffix i j (Long held row) e =
    let (apart, at) = other_suffix (pointwise nat_eq held suffix) i j e in
    record {
      held = held;
      row = row;
      is = refl;
      at = at;
      other = λ same. (let equal = (bytes_decides held suffix).1 same in let clash : true ≡ false = sym equal ∙ apart in cc);
    }
other_content suffix i j (Link top) e = absurd (cc)

link_place : (suffix : List ℕ) (i j : ℕ) (top : NodeNo) (content : Content) → found_content suffix i content ≡ LinkFound j top → i ≡ j
link_place suffix i j top (Short n row) e = absurd (cc)
link_place suffix i j top (Long held row) e = absurd (neither (pointwise nat_eq held suffix) e)
  where
    neither : (same : Bool) → (if same then RowFound i else OtherSuffix i) ≡ LinkFound j top → ⊥
    neither true f = cc
    neither false f = cc
link_place suffix i j top (Link other) e = cc

entry_is : (entry : Entry) (slice : ℕ) (content : Content) → entry.slice ≡ slice → entry.content ≡ content → entry ≡ record { slice = slice; content = content }
entry_is entry slice content x y = rw (sym x, sym y) refl

module _ (b : BorderView) (sound : IsBorder b) (rest : List ℕ) where
  abbrev at_place : ℕ
  at_place = entries_before (slice_number rest) (class_of (length rest)) b.live

  absent_within : (place : ℕ) → found_for rest b.live ≡ Absent place → place ≤ length b.live
  absent_within place e = go (drop at_place b.live) e
    where
      few : at_place ≤ length b.live
      few = prefix_len-le-length (λ entry. nat_lt (entry_rank entry) (rank_at (slice_number rest) (class_of (length rest)))) b.live

      go : (entries : List Entry) → found_first (slice_number rest) (class_of (length rest)) (drop 8 rest) at_place entries ≡ Absent place → place ≤ length b.live
      go [] f = let same : at_place ≡ place = cc in omega (arith, same, few)
      go (entry ∷ entries) f = by_rank (entry_rank entry == rank_at (slice_number rest) (class_of (length rest))) f
        where
          content_not : (content : Content) → found_content (drop 8 rest) at_place content ≡ Absent place → ⊥
          content_not (Short n row) g = cc
          content_not (Long held row) g = neither (pointwise nat_eq held (drop 8 rest)) g
            where
              neither : (same : Bool) → (if same then RowFound at_place else OtherSuffix at_place) ≡ Absent place → ⊥
              neither true h = cc
              neither false h = cc
          content_not (Link top) g = cc

          by_rank : (same : Bool) → (if same then found_content (drop 8 rest) at_place entry.content else Absent at_place) ≡ Absent place → place ≤ length b.live
          by_rank true g = absurd (content_not entry.content g)
          by_rank false g = let same : at_place ≡ place = cc in omega (arith, same, few)

  pub stands_at : (found : Found) → found_for rest b.live ≡ found → IsFoundAt rest b.live found
  stands_at (Absent place) e = absent_within place e
  stands_at (RowFound place) e =
      let f = found_one (slice_number rest) (class_of (length rest)) (drop 8 rest) b.live (RowFound place) e (λ k clash. cc) in
      let whole = all_among IsEntry f.entry b.live sound.entries.each f.stands in
      let (slices, classes) = rank_tells rest f.entry whole f.rank in
      let (row, has) = row_content (drop 8 rest) at_place place f.entry.content f.is in
      let here = place_found (drop 8 rest) at_place place f.entry.content f.is in
      record {
        entry = f.entry;
        stands = stands_dropped place b.live f.entry f.more (subst (λ (k : ℕ). drop k b.live ≡ f.entry ∷ f.more) here f.starts);
        row = subst (λ (r : Option Row). IsSome r) (sym has) (some row);
        of_rest = held_place f.entry.slice f.entry.content (place_of rest) row (holds rest f.entry.slice at_place place f.entry.content row whole.content slices classes f.is has);
      }
    where
      some : (row : Row) → IsSome (Some row)
      some row = cc
  stands_at (OtherSuffix place) e =
      let f = found_one (slice_number rest) (class_of (length rest)) (drop 8 rest) b.live (OtherSuffix place) e (λ k clash. cc) in
      let whole = all_among IsEntry f.entry b.live sound.entries.each f.stands in
      let (slices, classes) = rank_tells rest f.entry whole f.rank in
      let o = other_content (drop 8 rest) at_place place f.entry.content f.is in
      record {
        suffix = o.held;
        row = o.row;
        stands = stands_dropped place b.live f.entry f.more (subst (λ (k : ℕ). drop k b.live ≡ f.entry ∷ f.more) o.at f.starts) ∙ ap Some (entry_is f.entry (slice_number rest) (Long o.held o.row) slices o.is);
        goes_on = class_long (length rest) (sym classes ∙ ap (λ (c : Content). class_number (content_class c)) o.is);
        other = o.other;
      }
  stands_at (LinkFound place top) e =
      let f = found_one (slice_number rest) (class_of (length rest)) (drop 8 rest) b.live (LinkFound place top) e (λ k clash. cc) in
      let whole = all_among IsEntry f.entry b.live sound.entries.each f.stands in
      let (slices, classes) = rank_tells rest f.entry whole f.rank in
      let is = link_found (drop 8 rest) at_place place top f.entry.content f.is in
      let here = link_place (drop 8 rest) at_place place top f.entry.content f.is in
      stands_dropped place b.live f.entry f.more (subst (λ (k : ℕ). drop k b.live ≡ f.entry ∷ f.more) here f.starts) ∙ ap Some (entry_is f.entry (slice_number rest) (Link top) slices is)

pub found_stands : (b : BorderView) → IsBorder b → (rest : List ℕ) → IsFoundAt rest b.live (found_for rest b.live)
found_stands b sound rest = stands_at b sound rest (found_for rest b.live) refl
