-- An order through each call stands for fifteen slots.
use Rattle.std.proofs.Common.{◌≡◌, ℕ, ◌+◌, List, ◌++◌, take, drop, refl, sym, ap, ◌∙◌, subst, append_assoc}
use Rattle.std.specs.List.Sorted.{IsPermutation}
use Rattle.std.proofs.lemmas.List.{take-append-drop, drop-drop, length-set}
use Rattle.std.proofs.lemmas.List.Sorted.{IsPermutation-refl, IsPermutation-trans, IsPermutation-append_left, IsPermutation-append_right, IsPermutation-append_comm}
use Rattle.mt_word.specs.Slots.{Slots, IsArranged, places, all_slots, with_first_unused_at, without_place, with_first}
use Rattle.mt_border.specs.Table.{IsSlotTable, none_live, with_more_live, slot_changed}
use Rattle.mt_border.specs.declared.slot_table.Slot.{Slot}

pub none_live_arranged : IsArranged none_live
none_live_arranged = record { each_once = IsPermutation-refl all_slots }

-- an order whose places are those of another
same_places : (s after : Slots) → places after ≡ places s → IsArranged s → IsArranged after
same_places s after e h = record { each_once = subst (λ (ps : List ℕ). IsPermutation all_slots ps) (sym e) h.each_once }

-- what stands between two parts of a list changes places
exchanged : (a b c d : List ℕ) → IsPermutation ((a ++ (b ++ c)) ++ d) ((a ++ (c ++ b)) ++ d)
exchanged a b c d =
    IsPermutation-append_left d (a ++ (b ++ c)) (a ++ (c ++ b)) (IsPermutation-append_right a (b ++ c) (c ++ b) (IsPermutation-append_comm b c))

moved : (s after : Slots) (a b c d : List ℕ) → places s ≡ (a ++ (b ++ c)) ++ d → places after ≡ (a ++ (c ++ b)) ++ d → IsArranged s → IsArranged after
moved s after a b c d was is h = record {
  each_once = subst (λ (ps : List ℕ). IsPermutation all_slots ps) (sym is) (IsPermutation-trans all_slots ((a ++ (b ++ c)) ++ d) ((a ++ (c ++ b)) ++ d) (subst (λ (ps : List ℕ). IsPermutation all_slots ps) was h.each_once) (exchanged a b c d));
}

pub arranged_shown : (s : Slots) (i : ℕ) → IsArranged s → IsArranged (with_first_unused_at s i)
arranged_shown s i h =
    let a = take i s.live in
    let b = drop i s.live in
    let c = take 1 s.unused in
    let d = drop 1 s.unused in
    let flat : (a ++ (b ++ c)) ++ d ≡ (a ++ b) ++ (c ++ d) =
    append_assoc a (b ++ c) d ∙ (ap (λ (l : List ℕ). a ++ l) (append_assoc b c d) ∙ sym (append_assoc a b (c ++ d))) in
    let was : places s ≡ (a ++ (b ++ c)) ++ d = rw (flat, take-append-drop i s.live, take-append-drop 1 s.unused) refl in
    moved s (with_first_unused_at s i) a b c d was refl h

pub arranged_hidden : (s : Slots) (i : ℕ) → IsArranged s → IsArranged (without_place s i)
arranged_hidden s i h =
    let a = take i s.live in
    let b = take 1 (drop i s.live) in
    let c = drop (i + 1) s.live in
    let cut : b ++ c ≡ drop i s.live = ap (λ (l : List ℕ). b ++ l) (sym (drop-drop 1 i s.live)) ∙ take-append-drop 1 (drop i s.live) in
    let was : places s ≡ (a ++ (b ++ c)) ++ s.unused = rw (cut, take-append-drop i s.live) refl in
    let is : places (without_place s i) ≡ (a ++ (c ++ b)) ++ s.unused =
    sym (append_assoc (a ++ c) b s.unused) ∙ ap (λ (l : List ℕ). l ++ s.unused) (append_assoc a c b) in
    moved s (without_place s i) a b c s.unused was is h

pub arranged_first : (s : Slots) (k : ℕ) → IsArranged s → IsArranged (with_first s k)
arranged_first s k h =
    same_places s (with_first s k) (sym (append_assoc (take k s.live) (drop k s.live) s.unused) ∙ ap (λ (l : List ℕ). l ++ s.unused) (take-append-drop k s.live)) h

pub arranged_more : (s : Slots) (n : ℕ) → IsArranged s → IsArranged (with_more_live s n)
arranged_more s n h =
    same_places s (with_more_live s n) (append_assoc s.live (take n s.unused) (drop n s.unused) ∙ ap (λ (l : List ℕ). s.live ++ l) (take-append-drop n s.unused)) h

-- a table of which a slot is changed
pub table_changed : (xs : List Slot) (s : Slots) (number : ℕ) (f : Slot → Slot) → IsSlotTable xs s → IsSlotTable (slot_changed number f xs) s
table_changed xs s number f t = record { fifteen = length-set xs number _ ∙ t.fifteen; arranged = t.arranged }
