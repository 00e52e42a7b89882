-- For callers that cut a full border in two: the upper entries are a border, and the lower ones stand below it.
use Rattle.std.proofs.Common.{◌≡◌, ◌≢◌, ℕ, ◌+◌, ◌-◌, ◌^◌, ◌<◌, ◌≤◌, List, length, take, drop, replicate, get_or, refl, sym, ◌∙◌, arith, inl, inr, subst, slice_get, slice_index, Bool, Option, Some, None}
use Rattle.std.proofs.lemmas.Bool.{cases_eq}
use Rattle.std.proofs.lemmas.Option.{get_or_from_slice_get}
use Rattle.std.proofs.lemmas.List.{get_or-map, get_or-take, get_or-drop, length-take-le, length-drop, length-replicate}
use Rattle.std.proofs.lemmas.List.Elements.{All-drop, All-replicate}
use Rattle.mt_slice.specs.Classes.{class_number}
use Rattle.mt_border.specs.Entry.{entry_rank, content_class, IsEntry}
use Rattle.mt_border.specs.Table.{blank_slot}
use Rattle.mt_border.proofs.SlotLemmas.{new_entries_seen}
use Rattle.mt_border.specs.Border.{BorderView, new_border, with_entries}
use Rattle.mt_border.specs.Order.{IsBorder, IsOrdered, AreEntries, AreFrom, AreBelow, IsLeftOf}
use Rattle.mt_border.specs.Cut.{IsCut, slices}
use Rattle.mt_border.proofs.CutLemmas.{class_below}
use Rattle.mt_border.specs.declared.entry.Entry.{Entry}
use Rattle.mt_border.specs.declared.entry.RightLink.{RightLink}
use Rattle.mt_border.specs.declared.slot_table.Slot.{Slot}

-- an earlier entry has no greater slice
slices_climb : (live : List Entry) (i j : ℕ) (d : Entry) → IsOrdered live → AreEntries live → i ≤ j → j < length live → (get_or live i d).slice ≤ (get_or live j d).slice
slices_climb live i j d o whole before within =
    elim (cases_eq i j) [
      | inl same ↦ rw same (omega arith)
      | inr apart ↦ (let less : entry_rank (get_or live i d) < entry_rank (get_or live j d) = o.pairs i j d (omega arith) within in
          let few : class_number (content_class (get_or live j d).content) ≤ 9 = class_below (get_or live j d).content (whole.each j d within).content in
          omega (arith, less, few))
    ]

-- the first entry after a cut has a greater slice than each entry before it
pub above_cut : (b : BorderView) (i : ℕ) (first : Entry) → IsBorder b → length b.live ≡ 15 → IsCut (slices b.live) i → slice_get b.live i ≡ Some first → (k : ℕ) (d : Entry) → k < i → (get_or b.live k d).slice < first.slice
above_cut b i first h full cut there k d before =
    let inside : i < length b.live = omega (arith, full, cut.last) in
    let first_is : get_or b.live i d ≡ first = get_or_from_slice_get b.live i first d there in
    let last_inside : i - 1 < length b.live = omega (arith, inside) in
    let read_last : slice_index (slices b.live) (i - 1) ≡ (get_or b.live (i - 1) d).slice = get_or-map (λ (e : Entry). e.slice) b.live (i - 1) d 0 last_inside in
    let read_first : slice_index (slices b.live) i ≡ (get_or b.live i d).slice = get_or-map (λ (e : Entry). e.slice) b.live i d 0 inside in
    let apart : (get_or b.live (i - 1) d).slice ≢ (get_or b.live i d).slice = λ same. cut.apart (read_last ∙ (same ∙ sym read_first)) in
    let up : (get_or b.live (i - 1) d).slice ≤ (get_or b.live i d).slice = slices_climb b.live (i - 1) i d h.ordered h.entries (omega arith) inside in
    let low : (get_or b.live k d).slice ≤ (get_or b.live (i - 1) d).slice = slices_climb b.live k (i - 1) d h.ordered h.entries (omega (arith, before)) last_inside in
    subst (λ (e : Entry). (get_or b.live k d).slice < e.slice) first_is (omega (arith, apart, up, low))

-- what `link_right` asks for
pub cut_above_low : (b : BorderView) (i : ℕ) (first : Entry) → IsBorder b → length b.live ≡ 15 → IsCut (slices b.live) i → slice_get b.live i ≡ Some first → b.low < first.slice
cut_above_low b i first h full cut there =
    let least : b.low ≤ (get_or b.live 0 first).slice = h.from_low.each 0 first (omega (arith, full)) in
    let up : (get_or b.live 0 first).slice < first.slice = above_cut b i first h full cut there 0 first (omega (arith, cut.first)) in
    omega (arith, least, up)

pub cut_above_kept : (b : BorderView) (i : ℕ) (first : Entry) → IsBorder b → length b.live ≡ 15 → IsCut (slices b.live) i → slice_get b.live i ≡ Some first → AreBelow first.slice (take i b.live)
cut_above_kept b i first h full cut there = record {
  each = λ k d within.
      let short : length (take i b.live) ≡ i = length-take-le i b.live (omega (arith, full, cut.last)) in
      let before : k < i = omega (arith, short, within) in
      rw (get_or-take i b.live k d before) (above_cut b i first h full cut there k d before);
}

-- the entries from a place on
ordered_drop : (live : List Entry) (i : ℕ) → IsOrdered live → IsOrdered (drop i live)
ordered_drop live i o = record {
  pairs = λ p q d before within.
      let short : length (drop i live) ≡ length live - i = length-drop i live in
      rw (get_or-drop i live p d, get_or-drop i live q d) (o.pairs (i + p) (i + q) d (omega arith) (omega (arith, short, within)));
}

from_first : (live : List Entry) (i : ℕ) (first : Entry) → IsOrdered live → AreEntries live → slice_get live i ≡ Some first → AreFrom first.slice (drop i live)
from_first live i first o whole there = record {
  each = λ k d within.
      let short : length (drop i live) ≡ length live - i = length-drop i live in
      let climb : (get_or live i d).slice ≤ (get_or live (i + k) d).slice = slices_climb live i (i + k) d o whole (omega arith) (omega (arith, short, within)) in
      rw (get_or-drop i live k d) (subst (λ (e : Entry). e.slice ≤ (get_or live (i + k) d).slice) (get_or_from_slice_get live i first d there) climb);
}

left_of_drop : (low : ℕ) (live : List Entry) (i : ℕ) (first : Entry) (right : Option RightLink) → i < length live → slice_get live i ≡ Some first → IsLeftOf low live right → IsLeftOf first.slice (drop i live) right
left_of_drop low live i first None within there h = tt
left_of_drop low live i first (Some link) within there h =
    (subst (λ (e : Entry). e.slice < link.low) (get_or_from_slice_get live i first first there) (h.1.each i first within), record { each = All-drop (λ (e : Entry). e.slice < link.low) i live h.1.each })

blank_is_entry : IsEntry blank_slot.entry
blank_is_entry = record { slice_fits = omega arith; content = tt }

-- what `fill` asks for, of a new border
pub cut_upper : (b : BorderView) (i : ℕ) (first : Entry) (locked : Bool) → IsBorder b → length b.live ≡ 15 → IsCut (slices b.live) i → slice_get b.live i ≡ Some first → IsBorder (with_entries (new_border b.layer first.slice locked) (drop i b.live) b.right)
cut_upper b i first locked h full cut there =
    let inside : i < length b.live = omega (arith, full, cut.last) in
    let blanks : List Slot = replicate 15 blank_slot in
    record {
      seen = new_entries_seen (drop i b.live) (omega (arith, length-drop i b.live, full));
      slots = omega (arith, full, inside, length-drop i b.live, length-drop (length (drop i b.live)) blanks, length-replicate 15 blank_slot);
      low_fits = subst (λ (e : Entry). e.slice < 2 ^ 64) (get_or_from_slice_get b.live i first first there) (h.entries.each i first inside).slice_fits;
      ordered = ordered_drop b.live i h.ordered;
      entries = record { each = All-drop IsEntry i b.live h.entries.each };
      held_back = record { each = All-drop (λ (s : Slot). IsEntry s.entry) (length (drop i b.live)) blanks (All-replicate (λ (s : Slot). IsEntry s.entry) 15 blank_slot blank_is_entry) };
      from_low = from_first b.live i first h.ordered h.entries there;
      left_of = left_of_drop b.low b.live i first b.right inside there h.left_of;
      deleted_empty = λ deleted. cc;
      border = refl;
      flags = λ set. cc;
      unspent = record { inserts = λ set. cc; splits = λ set. cc };
      pending = tt;
      counters = record { vinsert_fits = omega arith; vsplit_fits = omega arith };
    }
