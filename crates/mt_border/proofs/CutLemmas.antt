-- A full border may be cut, and the nearest cut is found by going out from the middle.
use Rattle.std.proofs.Common.{◌≡◌, ℕ, zero, suc, ◌+◌, ◌-◌, ◌<◌, ◌≤◌, List, length, get_or, refl, sym, ◌∙◌, arith, inl, inr, slice_index}
use Rattle.std.proofs.lemmas.Bool.{cases_eq}
use Rattle.std.proofs.lemmas.List.{get_or-map}
use Rattle.mt_slice.specs.Classes.{class_number}
use Rattle.mt_border.specs.Entry.{entry_rank, content_class, IsContent}
use Rattle.mt_border.specs.Table.{blank_slot}
use Rattle.mt_border.specs.Order.{IsOrdered, AreEntries}
use Rattle.mt_border.specs.Cut.{IsCut, NoneNearer, slices}
use Rattle.mt_border.specs.declared.entry.Entry.{Entry}
use Rattle.mt_border.specs.declared.entry.Content.{Content}
use Rattle.mt_border.specs.declared.entry.Content.TheVariants.{Short, Long, Link}

pub none_nearer_than : (of : List ℕ) (d e : ℕ) → d ≤ e → NoneNearer of e → NoneNearer of d
none_nearer_than of d e small h = record { each = λ i cut. omega (arith, h.each i cut) }

pub class_below : (content : Content) → IsContent content → class_number (content_class content) ≤ 9
class_below (Short bytes row) h = omega arith
class_below (Long suffix row) h = omega arith
class_below (Link head) h = omega arith

-- each rank is greater than the one before
rank_climbs : (live : List Entry) (d : Entry) → IsOrdered live → (i : ℕ) → i < length live → entry_rank (get_or live 0 d) + i ≤ entry_rank (get_or live i d)
rank_climbs live d o zero within = omega arith
rank_climbs live d o (suc i) within =
    let before = rank_climbs live d o i (omega arith) in
    let step : entry_rank (get_or live i d) < entry_rank (get_or live (suc i) d) = o.pairs i (suc i) d (omega arith) within in
    omega (arith, before, step)

-- if no place is a cut, each slice is the first
one_slice : (live : List Entry) → ((i : ℕ) → IsCut (slices live) i → ⊥) → (i : ℕ) → i ≤ 14 → slice_index (slices live) i ≡ slice_index (slices live) 0
one_slice live none zero h = refl
one_slice live none (suc i) h =
    elim (cases_eq (slice_index (slices live) i) (slice_index (slices live) (suc i))) [
      | inl same ↦ sym same ∙ one_slice live none i (omega arith)
      | inr apart ↦ (let back : suc i - 1 ≡ i = omega arith in
          absurd (none (suc i) (record { first = omega arith; last = omega (arith, h); apart = rw back apart })))
    ]

-- fifteen entries have at least two slices, since a slice has ten classes
pub some_cut : (live : List Entry) → length live ≡ 15 → IsOrdered live → AreEntries live → NoneNearer (slices live) 8 → ⊥
some_cut live full o whole h =
    let none : (i : ℕ) → IsCut (slices live) i → ⊥ = λ i cut. omega (arith, cut.first, cut.last, h.each i cut) in
    let d : Entry = blank_slot.entry in
    let first : Entry = get_or live 0 d in
    let last : Entry = get_or live 14 d in
    let same : slice_index (slices live) 14 ≡ slice_index (slices live) 0 = one_slice live none 14 (omega arith) in
    let read_first : slice_index (slices live) 0 ≡ first.slice = get_or-map (λ (e : Entry). e.slice) live 0 d 0 (omega arith) in
    let read_last : slice_index (slices live) 14 ≡ last.slice = get_or-map (λ (e : Entry). e.slice) live 14 d 0 (omega arith) in
    let climb : entry_rank first + 14 ≤ entry_rank last = rank_climbs live d o 14 (omega arith) in
    let few : class_number (content_class last.content) ≤ 9 = class_below last.content (whole.each 14 d (omega arith)).content in
    omega (arith, same, read_first, read_last, climb, few)
