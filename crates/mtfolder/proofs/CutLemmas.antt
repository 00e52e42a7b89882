-- What cuts leave, and what writes make of a file.
use Rattle.std.proofs.Common.{◌≡◌, ◌∙◌, ◌⊎◌, ◌+◌, ◌-◌, ◌<◌, ◌≤◌, ◌++◌, ◌∷◌, ℕ, List, [], max, length, get_or, take, drop, replicate, refl, sym, ap, arith, Option, Some, None, IsSome, Result, Ok, Err, OnOk, inl, inr, rules}
use Rattle.std.specs.Prelude.{IfSome}
use Rattle.std.proofs.Math.ListN.{drop_of_length-le}
use Rattle.std.proofs.lemmas.List.{append-nil, length-append, length-take-le, length-drop, length-replicate, take-append-drop, get_or_append_left, get_or-take}
use Rattle.std.proofs.lemmas.List.Prefix.{front_from_reads, at_from_reads}
use Rattle.sqlite_disk.specs.Disk.{Holds, Torn}
use Rattle.mtfolder.specs.declared.cutting.Cut.{Cut}
use Rattle.mtfolder.specs.declared.cutting.Plan.{Plan}
use Rattle.mtfolder.specs.Cuts.{left_of, zeroed, Fits, FitsIn, IsCut, IsPlace, IsPlan, Leaves, ReadsTo}

pub none_left : (bytes : List ℕ) → length bytes ≡ 0 → bytes ≡ []
none_left [] e = refl
none_left (b ∷ bytes) e = absurd (omega (arith, e))

-- what a file has after its end was written over
pub overwritten : (from : ℕ) (old left bytes new : List ℕ) → bytes ≡ drop from left → from < length left → from ≤ length old → length old ≤ length left
    → ((i : ℕ) → i < from → get_or old i 0 ≡ get_or left i 0) → Torn from (length bytes) old new → (0 < length bytes → Holds new from bytes) → new ≡ left
overwritten from old left bytes new are some within longer same torn held =
    let p = take from left in
    let n = length bytes in
    let count : n ≡ length left - from = ap length are ∙ length-drop from left in
    let holds : Holds new from bytes = held (omega (arith, count)) in
    let front_len : length p ≡ from = length-take-le from left (omega arith) in
    let no_longer = torn.no_longer in
    let size : length new ≡ from + n = omega (arith, count, holds.within, no_longer) in
    let front : new ≡ p ++ drop (length p) new =
    front_from_reads 0 new p (omega (arith, size, front_len))
    (λ i lt. torn.below i (omega (arith, lt, front_len)) (omega (arith, lt, front_len)) ∙ same i (omega (arith, lt, front_len)) ∙ sym (get_or-take from left i 0 (omega (arith, lt, front_len)))) in
    let tail : drop from new ≡ bytes ++ drop (from + n) new = at_from_reads 0 new bytes from holds.within holds.each in
    let none : drop (from + n) new ≡ [] = drop_of_length-le new (omega (arith, size)) in
    let back : drop (length p) new ≡ drop from left = ap (λ (k : ℕ). drop k new) front_len ∙ tail ∙ ap (λ (l : List ℕ). bytes ++ l) none ∙ append-nil bytes ∙ are in
    front ∙ ap (λ (l : List ℕ). p ++ l) back ∙ take-append-drop from left

-- a cut leaves more than the bytes before it, and no fewer than there were
pub left_size : (from : ℕ) (bytes : List ℕ) → from ≤ length bytes → length (zeroed from bytes) ≡ from + max 1 (length bytes - from)
left_size from bytes within =
    let n = max 1 (length bytes - from) in
    omega (arith, length-append (take from bytes) (replicate n 0), length-take-le from bytes within, length-replicate {A = ℕ} n 0)

-- it leaves the bytes before it
pub left_reads : (from : ℕ) (bytes : List ℕ) → from ≤ length bytes → (i : ℕ) → i < from → get_or bytes i 0 ≡ get_or (zeroed from bytes) i 0
left_reads from bytes within i lt =
    let n = max 1 (length bytes - from) in
    sym (get_or_append_left (take from bytes) (replicate n 0) 0 i (omega (arith, length-take-le from bytes within)) ∙ get_or-take from bytes i 0 lt)

-- a file that is written over from the place of its cut on has what is left
pub cut_written : (cut : Cut) (old left bytes new : List ℕ) → bytes ≡ drop cut.from left → Leaves (Some cut) old left → Torn cut.from (length bytes) old new → (0 < length bytes → Holds new cut.from bytes) → new ≡ left
cut_written cut old left bytes new are leaves torn held =
    let size = left_size cut.from old leaves.within in
    let long = ap length leaves.left_is in
    overwritten cut.from old left bytes new are (omega (arith, size, long)) leaves.within (omega (arith, size, long))
    (λ i lt. left_reads cut.from old leaves.within i lt ∙ ap (λ (l : List ℕ). get_or l i 0) (sym leaves.left_is)) torn held

pub fits_in : (bytes left : List ℕ) (cut other : Option Cut) → IfSome cut (IsCut bytes other) → left ≡ left_of cut bytes → FitsIn cut left
fits_in bytes left None other is e = tt
fits_in bytes left (Some cut) other is e = omega (arith, ap length e, left_size cut.from bytes is.place.within)

pub leaves_of : (bytes left : List ℕ) (cut other : Option Cut) → IfSome cut (IsCut bytes other) → left ≡ left_of cut bytes → Leaves cut bytes left
leaves_of bytes left None other is e = record { within = tt; left_is = e }
leaves_of bytes left (Some cut) other is e = record { within = is.place.within; left_is = e }

pub plan_fits : (even odd : List ℕ) (plan : Plan) → IsPlan even odd plan → Fits plan
plan_fits even odd plan is = record {
  even = fits_in even plan.left.even.items plan.cuts.even plan.cuts.odd is.cuts.of_even is.left_even;
  odd = fits_in odd plan.left.odd.items plan.cuts.odd plan.cuts.even is.cuts.of_odd is.left_odd;
}

pub plan_leaves_even : (even odd : List ℕ) (plan : Plan) → IsPlan even odd plan → Leaves plan.cuts.even even plan.left.even.items
plan_leaves_even even odd plan is = leaves_of even plan.left.even.items plan.cuts.even plan.cuts.odd is.cuts.of_even is.left_even

pub plan_leaves_odd : (even odd : List ℕ) (plan : Plan) → IsPlan even odd plan → Leaves plan.cuts.odd odd plan.left.odd.items
plan_leaves_odd even odd plan is = leaves_of odd plan.left.odd.items plan.cuts.odd plan.cuts.even is.cuts.of_odd is.left_odd

-- a cut stays one if the other file is cut too
place_more : (bytes : List ℕ) (other : Option Cut) (more : Cut) (from : ℕ) → IsPlace bytes other from → IsPlace bytes (Some more) from
place_more bytes other more from is =
    record {
      within = is.within;
      why = elim is.why as (λ w. ((C : ℕ) × ReadsTo C bytes from) ⊎ ((from ≡ 0) × IsSome (Some more))) [
        | inl reads ↦ inl reads
        | inr whole ↦ inr (whole.0, search rules)
      ];
    }

pub cut_more : (bytes : List ℕ) (cut other : Option Cut) (more : Cut) → IfSome cut (IsCut bytes other) → IfSome cut (IsCut bytes (Some more))
cut_more bytes None other more is = tt
cut_more bytes (Some cut) other more is = record { place = place_more bytes other more cut.from is.place; gone = is.gone }

-- ---- outcomes

pub on_ok : {T E P : Type 0} → (r : Result T E) → P → OnOk r P
on_ok (Ok x) p = p
on_ok (Err e) p = tt

pub if_some : {T : Type 0} → (o : Option T) (P Q : T → Type 0) → ((x : T) → P x → Q x) → IfSome o P → IfSome o Q
if_some None P Q more p = tt
if_some (Some x) P Q more p = more x p
