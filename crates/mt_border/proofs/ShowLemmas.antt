-- For callers of `show`: an entry that a search did not find may be shown at the place that it gave.
use Rattle.std.proofs.Common.{◌≡◌, ◌≢◌, ℕ, zero, suc, ◌+◌, ◌<◌, ◌≤◌, List, [], ◌∷◌, ◌++◌, length, take, drop, map, get_or, refl, sym, ap, ◌∙◌, arith, inl, inr, Bool, true, false, Option, Some, None, ◌==◌, nat_lt, nat_eq, subst, if◌then◌else◌, IsSome}
use Rattle.std.specs.List.{All, AllPairs, insert}
use Rattle.std.proofs.lemmas.Bool.{cases_lt, cases_eq}
use Rattle.std.proofs.lemmas.Bool.Decides.{eqb_tells}
use Rattle.std.proofs.lemmas.List.Edits.{length-insert, get_or-insert_below, get_or-insert_at, get_or-insert_above}
use Rattle.std.proofs.lemmas.List.{drop_more}
use Rattle.std.proofs.lemmas.List.Elements.{All-take, All-drop, All-append}
use Rattle.std.proofs.lemmas.List.Sums.{prefix_len-le-length, prefix_len_passes, prefix_len_stops}
use borrow.Author.Tests.{ltb-true, ltb-false}
use Rattle.std.specs.Cmp.Lexicographic.{pointwise}
use Rattle.mt_slice.specs.declared.slice_class.Class.{Class}
use Rattle.mt_border.specs.Entry.{entry_rank, rank_at, IsEntry, IsContent, entry_class, at_version, content_at_version, content_class, content_row, content_of, entry_row}
use Rattle.mt_border.specs.Border.{BorderView, with_shown, with_filled, next_row}
use Rattle.mt_border.specs.Table.{first_changed, filled, shown, slot_changed, next_number}
use Rattle.mt_word.specs.Slots.{with_first_unused_at}
use Rattle.mt_border.proofs.SlotLemmas.{seen_shown}
use Rattle.mt_border.proofs.BorderLemmas.{all_written}
use Rattle.mt_types.specs.declared.row.Row.{Row}
use Rattle.mt_slice.specs.declared.slice_class.Class.TheVariants.{Len, Long as LongClass}
use Rattle.mt_border.specs.Order.{IsBorder, IsOrdered, IsLeftOf, HoldEntries, AreInSlots}
use Rattle.mt_border.specs.Find.{entries_before, found_first, found_in, found_content}
use Rattle.mt_border.specs.declared.entry.Entry.{Entry}
use Rattle.mt_border.specs.declared.entry.Content.{Content}
use Rattle.mt_border.specs.declared.entry.Content.TheVariants.{Short, Long, Link}
use Rattle.mt_border.specs.declared.entry.RightLink.{RightLink}
use Rattle.mt_border.specs.declared.found.Found.{Found}
use Rattle.mt_border.specs.declared.found.Found.TheVariants.{Absent, Row as RowFound, OtherSuffix}
use Rattle.mt_border.specs.declared.slot_table.Slot.{Slot}
use Rattle.mt_border.specs.declared.unwritten.Unwritten.TheVariants.{Nothing}

-- an old entry that moved up, against a later one
past : (live : List Entry) (i : ℕ) (x : Entry) → i ≤ length live → IsOrdered live → (d : Entry) (a b : ℕ) → i < a → a < suc b → b < length live → entry_rank (get_or (insert live i x) a d) < entry_rank (get_or live b d)
past live i x fits o d zero b low before within = absurd (omega arith)
past live i x fits o d (suc a) b low before within =
    let step : suc a ≡ a + 1 = omega arith in
    let high : i ≤ a = omega arith in
    rw (step, get_or-insert_above live i x d a high fits) (o.pairs a b d (omega arith) within)

-- the entry at a place of the longer list, against one that comes after the new one
after : (live : List Entry) (i : ℕ) (x : Entry) → i ≤ length live → IsOrdered live → ((k : ℕ) (d : Entry) → k < i → entry_rank (get_or live k d) < entry_rank x) → ((k : ℕ) (d : Entry) → i ≤ k → k < length live → entry_rank x < entry_rank (get_or live k d)) → (d : Entry) (a b : ℕ) → a < suc b → b < length live → i ≤ b → entry_rank (get_or (insert live i x) a d) < entry_rank (get_or live b d)
after live i x fits o below above d a b before within high =
    elim (cases_lt a i) [
      | inl low ↦ rw (get_or-insert_below live i x d a low fits) (o.pairs a b d (omega arith) within)
      | inr up ↦ elim (cases_eq a i) [
        | inl at ↦ rw (at, get_or-insert_at live i x d fits) (above b d high within)
        | inr off ↦ past live i x fits o d a b (omega arith) before within
      ]
    ]

-- an entry between those before it and those after it
inserted_pairs : (live : List Entry) (i : ℕ) (x : Entry) → i ≤ length live → IsOrdered live → ((k : ℕ) (d : Entry) → k < i → entry_rank (get_or live k d) < entry_rank x) → ((k : ℕ) (d : Entry) → i ≤ k → k < length live → entry_rank x < entry_rank (get_or live k d)) → AllPairs (λ entry later. entry_rank entry < entry_rank later) (take i live ++ (x ∷ drop i live))
inserted_pairs live i x fits o below above a zero d before within = absurd (omega arith)
inserted_pairs live i x fits o below above a (suc b) d before within =
    let long : length (insert live i x) ≡ length live + 1 = length-insert live i x fits in
    elim (cases_lt (suc b) i) [
      | inl b_low ↦ (let a_low : a < i = omega arith in
          rw (get_or-insert_below live i x d a a_low fits, get_or-insert_below live i x d (suc b) b_low fits) (o.pairs a (suc b) d before (omega arith)))
      | inr b_high ↦ elim (cases_eq (suc b) i) [
        | inl b_at ↦ (let a_low : a < i = omega arith in
            rw (b_at, get_or-insert_below live i x d a a_low fits, get_or-insert_at live i x d fits) (below a d a_low))
        | inr b_off ↦ (let b_above : i ≤ b = omega arith in
            let step : suc b ≡ b + 1 = omega arith in
            rw (step, get_or-insert_above live i x d b b_above fits)
            (after live i x fits o below above d a b (omega arith) (omega arith) b_above))
      ]
    ]

-- what a search did not find comes after the entries before its place and before those from there on
pub record IsBetween (rank : ℕ) (i : ℕ) (live : List Entry) : Type 0 where
  pub within : i ≤ length live
  pub below : (k : ℕ) (d : Entry) → k < i → entry_rank (get_or live k d) < rank
  pub above : (k : ℕ) (d : Entry) → i ≤ k → k < length live → rank < entry_rank (get_or live k d)

-- no content that is found is absent
never_either : (same : Bool) (i j : ℕ) → (if same then RowFound i else OtherSuffix i) ≡ Absent j → ⊥
never_either true i j e = cc
never_either false i j e = cc

never_absent : (suffix : List ℕ) (i j : ℕ) (content : Content) → found_content suffix i content ≡ Absent j → ⊥
never_absent suffix i j (Short bytes row) e = cc
never_absent suffix i j (Long held row) e = never_either (pointwise nat_eq held suffix) i j e
never_absent suffix i j (Link head) e = cc

absent_else : (same : Bool) (i j : ℕ) (found : Found) → ((k : ℕ) → found ≡ Absent k → ⊥) → (if same then found else Absent i) ≡ Absent j → (same ≡ false) × (i ≡ j)
absent_else true i j found h e = absurd (h j e)
absent_else false i j found h e = (refl, cc)

place_is : (slice : ℕ) (class : Class) (suffix : List ℕ) (i j : ℕ) (entries : List Entry) → found_first slice class suffix i entries ≡ Absent j → i ≡ j
place_is slice class suffix i j [] e = cc
place_is slice class suffix i j (entry ∷ entries) e =
    (absent_else (entry_rank entry == rank_at slice class) i j (found_content suffix i entry.content) (λ k. never_absent suffix i k entry.content) e).1

other_rank : (slice : ℕ) (class : Class) (suffix : List ℕ) (i j : ℕ) (entry : Entry) (entries : List Entry) → found_first slice class suffix i (entry ∷ entries) ≡ Absent j → entry_rank entry ≢ rank_at slice class
other_rank slice class suffix i j entry entries e same =
    let differ : (entry_rank entry == rank_at slice class) ≡ false = (absent_else (entry_rank entry == rank_at slice class) i j (found_content suffix i entry.content) (λ k. never_absent suffix i k entry.content) e).0 in
    elim (eqb_tells (entry_rank entry) (rank_at slice class)) [
      | inl p ↦ (let clash : true ≡ false = sym p.0 ∙ differ in cc)
      | inr p ↦ p.1 same
    ]

pub between_from_absent : (slice : ℕ) (class : Class) (suffix : List ℕ) (live : List Entry) (i : ℕ) → IsOrdered live → found_in slice class suffix live ≡ Absent i → IsBetween (rank_at slice class) i live
between_from_absent slice class suffix live i o e =
    let before : Entry → Bool = λ entry. nat_lt (entry_rank entry) (rank_at slice class) in
    let j = entries_before slice class live in
    let same : j ≡ i = place_is slice class suffix j i (drop j live) e in
    let fits : j ≤ length live = prefix_len-le-length before live in
    let low : (k : ℕ) (d : Entry) → k < i → entry_rank (get_or live k d) < rank_at slice class = λ k d h. ltb-true _ _ (prefix_len_passes before live k d (omega arith)) in
    let stop : (d : Entry) → j < length live → rank_at slice class ≤ entry_rank (get_or live j d) = λ d h. ltb-false _ _ (prefix_len_stops before live d h) in
    let first : (d : Entry) → j < length live → rank_at slice class < entry_rank (get_or live j d) = λ d h.
    (let more : drop j live ≡ get_or live j d ∷ drop (j + 1) live = drop_more live j d h in
    let off = other_rank slice class suffix j i (get_or live j d) (drop (j + 1) live) (rw more at e) in
    let up = stop d h in
    omega (arith, off, up)) in
    record {
      within = omega arith;
      below = low;
      above = λ k d high within.
          elim (cases_eq k j) [
            | inl at ↦ rw at (first d (omega arith))
            | inr off ↦ (let here = first d (omega arith) in
                let later : entry_rank (get_or live j d) < entry_rank (get_or live k d) = o.pairs j k d (omega arith) within in
                omega (arith, here, later))
          ];
    }

class_at_version : (version : ℕ) (content : Content) → content_class (content_at_version version content) ≡ content_class content
class_at_version version (Short bytes row) = refl
class_at_version version (Long suffix row) = refl
class_at_version version (Link head) = refl

content_whole : (version : ℕ) (content : Content) → IsContent content → IsContent (content_at_version version content)
content_whole version (Short bytes row) h = h
content_whole version (Long suffix row) h = h
content_whole version (Link head) h = h

All-inserted : (P : Entry → Type 0) (i : ℕ) (live : List Entry) (x : Entry) → P x → All P live → All P (take i live ++ (x ∷ drop i live))
All-inserted P i live x h all = All-append P (take i live) (x ∷ drop i live) (All-take P i live all) rest
  where
    rest : All P (x ∷ drop i live)
    rest zero d within = h
    rest (suc k) d within = All-drop P i live all k d (omega arith)

-- a slice that belongs here, left of what is to the right
abbrev pub IsBeforeRight : ℕ → Option RightLink → Type 0
IsBeforeRight slice None = Unit {0}
IsBeforeRight slice (Some link) = slice < link.low

left_inserted : (low i : ℕ) (live : List Entry) (x : Entry) (right : Option RightLink) → IsBeforeRight x.slice right → IsLeftOf low live right → IsLeftOf low (take i live ++ (x ∷ drop i live)) right
left_inserted low i live x None h left = tt
left_inserted low i live x (Some link) h left = (left.0, record { each = All-inserted (λ e. e.slice < link.low) i live x h left.1.each })

-- a border may show what its first unused slot holds, at its place and within its bounds
pub border_shown : (b : BorderView) (slot : Slot) (rest : List Slot) (i version : ℕ) → b.unused ≡ slot ∷ rest → b.unwritten ≡ Nothing → b.version.deleted ≡ false → IsBetween (entry_rank slot.entry) i b.live → b.low ≤ slot.entry.slice → IsBeforeRight slot.entry.slice b.right → IsBorder b → IsBorder (with_shown b i version)
border_shown b slot rest i version e written here between low right h =
    let x : Entry = at_version version slot.entry in
    let shown_is : with_shown b i version ≡ record (with_shown b i version) { live = take i b.live ++ (x ∷ drop i b.live); unused = rest } =
    ap (λ (u : List Slot). record (with_shown b i version) { live = take i b.live ++ (map (λ (s : Slot). at_version version s.entry) (take 1 u) ++ drop i b.live); unused = drop 1 u }) e in
    let rank : entry_rank x ≡ entry_rank slot.entry = ap (λ (c : Class). rank_at slot.entry.slice c) (class_at_version version slot.entry.content) in
    let held : HoldEntries (slot ∷ rest) = subst HoldEntries e h.held_back in
    let own : IsEntry slot.entry = held.each 0 slot (omega arith) in
    let whole : IsEntry x = record { slice_fits = own.slice_fits; content = content_whole version slot.entry.content own.content } in
    let long : length (take i b.live ++ (x ∷ drop i b.live)) ≡ length b.live + 1 = length-insert b.live i x between.within in
    let unused : length b.unused ≡ suc (length rest) = ap (λ (u : List Slot). length u) e in
    let seen : AreInSlots (take i b.live ++ (x ∷ drop i b.live)) rest (slot_changed (next_number b.order) (shown version) b.slots) (with_first_unused_at b.order i) =
    subst (λ (u : List Slot). AreInSlots (take i b.live ++ (map (λ (s : Slot). at_version version s.entry) (take 1 u) ++ drop i b.live)) (drop 1 u) (slot_changed (next_number b.order) (shown version) b.slots) (with_first_unused_at b.order i)) e (seen_shown b.live b.unused b.slots b.order i version h.seen (omega (arith, h.slots, unused))) in
    subst IsBorder (sym shown_is) (record {
      seen = seen;
      slots = omega (arith, h.slots, long, unused);
      low_fits = h.low_fits;
      ordered = record { pairs = inserted_pairs b.live i x between.within h.ordered (λ k d l. rw rank (between.below k d l)) (λ k d u w. rw rank (between.above k d u w)) };
      entries = record { each = All-inserted IsEntry i b.live x whole h.entries.each };
      held_back = record { each = λ k d within. held.each (suc k) d (omega arith) };
      from_low = record { each = All-inserted (λ entry. b.low ≤ entry.slice) i b.live x low h.from_low.each };
      left_of = left_inserted b.low i b.live x b.right right h.left_of;
      deleted_empty = λ deleted. (let clash : true ≡ false = sym deleted ∙ here in cc);
      border = h.border;
      flags = h.flags;
      unspent = h.unspent;
      pending = all_written (record (with_shown b i version) { live = take i b.live ++ (x ∷ drop i b.live); unused = rest }) written;
      counters = h.counters;
    })

-- what was filled in may be shown where a search did not find it
pub filled_shown : (b : BorderView) (entry : Entry) (suffix : List ℕ) (i version : ℕ) → length b.live < 15 → b.version.deleted ≡ false → found_in entry.slice (entry_class entry) suffix b.live ≡ Absent i → b.low ≤ entry.slice → IsBeforeRight entry.slice b.right → IsBorder b → IsBorder (with_filled b entry) → IsBorder (with_shown (with_filled b entry) i version)
filled_shown b entry suffix i version room here absent low right h whole = go b.unused refl
  where
    go : (unused : List Slot) → b.unused ≡ unused → IsBorder (with_shown (with_filled b entry) i version)
    go [] e = absurd (let none : length b.unused ≡ 0 = ap (λ (u : List Slot). length u) e in omega (arith, h.slots, none))
    go (slot ∷ rest) e =
        border_shown (with_filled b entry) (filled entry slot) rest i version (ap (λ (u : List Slot). first_changed (filled entry) u) e) refl here (between_from_absent entry.slice (entry_class entry) suffix b.live i h.ordered absent) low right whole

pub filled_row : (b : BorderView) (entry : Entry) → length b.live < 15 → IsSome (entry_row entry) → IsBorder b → IsSome (next_row (with_filled b entry).unused)
filled_row b entry room row h = go b.unused refl
  where
    go : (unused : List Slot) → b.unused ≡ unused → IsSome (next_row (first_changed (filled entry) b.unused))
    go [] e = absurd (let none : length b.unused ≡ 0 = ap (λ (u : List Slot). length u) e in omega (arith, h.slots, none))
    go (slot ∷ rest) e = rw e row

pub row_of_row : (class : Class) (suffix : List ℕ) (row : Row) → IsSome (content_row (content_of class suffix row))
row_of_row (Len bytes) suffix row = refl
row_of_row LongClass suffix row = refl
