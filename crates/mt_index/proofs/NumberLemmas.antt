-- Calls by their numbers: what the map of open calls finds, takes in and leaves.
use Rattle.std.proofs.Common.{◌≡◌, ◌<◌, ◌+◌, ◌==◌, ℕ, false, Bool, true, cond, List, [], ◌∷◌, ◌++◌, Some, sym, ◌∙◌, ap, subst, refl, arith, inl, inr, Option, None}
use Rattle.std.specs.Option.{option_or}
use Rattle.mt_types.specs.Limits.{refused_if}
use Rattle.mt_types.specs.declared.refusal.Refusal.{Refusal}
use Rattle.std.specs.Prelude.{eqb}
use Rattle.std.specs.declared.cmp.Ordering.TheVariants.{Less, Equal, Greater}
use Rattle.std.specs.Cmp.{nat_cmp_is, ranks}
use Rattle.std.specs.Map.{lookup, set_value, remove_entry}
use Rattle.std.specs.Ordering.{nat_cmp, is_eq, match_ordering, MatchOrdering}
use Rattle.std.specs.BTreeMap.{insert_entry, is_at}
use Rattle.std.proofs.lemmas.Bool.{eq-eqb, ne_eqb}
use Rattle.std.proofs.lemmas.Bool.Decides.{eqb_tells}
use Rattle.std.specs.Prelude.{nat_le}
use Rattle.std.proofs.lemmas.Bool.{leb-false}
use Rattle.mt_types.specs.Limits.{request_fault}
use Rattle.mt_types.specs.Numbers.{greatest_number}
use Rattle.mt_types.specs.declared.limits.TheConstants.{MAX_OPEN_CALLS}
use Rattle.mt_types.specs.declared.refusal.Refusal.TheVariants.{TooManyCalls, Spent}
use Rattle.mt_types.specs.declared.event.Request.{Request}
use Rattle.mt_promise.specs.Legal.{begin_fault}
use Rattle.mt_index.specs.declared.calls.Call.{Call}
use Rattle.mt_index.specs.Calls.{call_at, with_changed, without, AreBegun}

abbrev pub Entries : Type 0
Entries = List (ℕ × Call)

-- ---- what is made of a first entry
module _ (number : ℕ) (entry : ℕ × Call) (entries : Entries) where
  -- it has the number
  module _ (here : (entry.0 == number) ≡ true) where
    pub call_at-here : call_at number (entry ∷ entries) ≡ Some entry.1
    call_at-here = ap (λ b. cond b (Some entry.1) (call_at number entries)) here

    pub found-here : (call : Call) → call_at number (entry ∷ entries) ≡ Some call → entry.1 ≡ call
    found-here call found = let same : Some entry.1 ≡ Some call = sym call_at-here ∙ found in cc

    pub changed-here : (change : Call → Call) → with_changed change number (entry ∷ entries) ≡ (entry.0, change entry.1) ∷ entries
    changed-here change = ap (λ b. cond b ((entry.0, change entry.1) ∷ entries) (entry ∷ with_changed change number entries)) here

    pub without-here : without number (entry ∷ entries) ≡ entries
    without-here = ap (λ b. cond b entries (entry ∷ without number entries)) here

  -- it has another
  module _ (there : (entry.0 == number) ≡ false) where
    pub call_at-there : call_at number (entry ∷ entries) ≡ call_at number entries
    call_at-there = ap (λ b. cond b (Some entry.1) (call_at number entries)) there

    pub found-there : (call : Call) → call_at number (entry ∷ entries) ≡ Some call → call_at number entries ≡ Some call
    found-there call found = sym call_at-there ∙ found

    pub changed-there : (change : Call → Call) → with_changed change number (entry ∷ entries) ≡ entry ∷ with_changed change number entries
    changed-there change = ap (λ b. cond b ((entry.0, change entry.1) ∷ entries) (entry ∷ with_changed change number entries)) there

    pub without-there : without number (entry ∷ entries) ≡ entry ∷ without number entries
    without-there = ap (λ b. cond b entries (entry ∷ without number entries)) there

-- ---- what the map does
-- to be at a key is to have its number
at_number : (number other : ℕ) → is_eq (nat_cmp number other) ≡ (other == number)
at_number number other =
    elim (nat_cmp number other) as (λ order. MatchOrdering order (number < other) (number ≡ other) (other < number) → is_eq order ≡ eqb other number) [
      | Less ↦ λ below. sym (ne_eqb other number (λ e. omega arith))
      | Equal ↦ λ same. sym (eq-eqb other number (sym same))
      | Greater ↦ λ above. sym (ne_eqb other number (λ e. omega arith))
    ] (ranks number other)

-- what the map finds is the call of the number
pub lookup-call_at : (number : ℕ) (entries : Entries) → lookup (is_at (nat_cmp number)) entries ≡ call_at number entries
lookup-call_at number [] = refl
lookup-call_at number (entry ∷ entries) =
    ap (λ found. cond found (Some entry.1) (lookup (is_at (nat_cmp number)) entries)) (at_number number entry.0)
    ∙ ap (cond (entry.0 == number) (Some entry.1)) (lookup-call_at number entries)

-- what is left in the map after a number is taken out
pub remove-without : (number : ℕ) (entries : Entries) → remove_entry (is_at (nat_cmp number)) entries ≡ without number entries
remove-without number [] = refl
remove-without number (entry ∷ entries) =
    ap (λ found. cond found entries (entry ∷ remove_entry (is_at (nat_cmp number)) entries)) (at_number number entry.0)
    ∙ ap (λ rest. cond (entry.0 == number) entries (entry ∷ rest)) (remove-without number entries)

-- a greater number is inserted at the end
pub insert-next : (number : ℕ) (call : Call) (begun : ℕ) (entries : Entries) → AreBegun begun entries → begun < number → insert_entry nat_cmp entries number call ≡ entries ++ (number, call) ∷ []
insert-next number call begun [] below less = refl
insert-next number call begun (entry ∷ entries) below less =
    let low = below.0 in
    let after : nat_cmp number entry.0 ≡ Greater = sym (nat_cmp_is number entry.0 Greater (omega arith)) in
    ap (λ order. match_ordering order ((number, call) ∷ entry ∷ entries) ((entry.0, call) ∷ entries) (entry ∷ insert_entry nat_cmp entries number call)) after
    ∙ ap (λ (rest : Entries). entry ∷ rest) (insert-next number call begun entries below.1 less)

-- the call of a number is written over
pub set-changed : (change : Call → Call) (number : ℕ) (entries : Entries) (old new : Call) → call_at number entries ≡ Some old → new ≡ change old
    → set_value (is_at (nat_cmp number)) entries new ≡ with_changed change number entries
set-changed change number [] old new found is = refl
set-changed change number (entry ∷ entries) old new found is =
    let set_here : Bool → Entries = λ here. cond here ((entry.0, new) ∷ entries) (entry ∷ set_value (is_at (nat_cmp number)) entries new) in
    ap set_here (at_number number entry.0)
    ∙ elim (eqb_tells entry.0 number) [
      | inl p ↦
          ap set_here p.0 ∙ ap (λ (c : Call). (entry.0, c) ∷ entries) (is ∙ ap change (sym (found-here number entry entries p.0 old found)))
          ∙ sym (changed-here number entry entries p.0 change)
      | inr p ↦
          ap set_here p.0 ∙ ap (λ (rest : Entries). entry ∷ rest) (set-changed change number entries old new (found-there number entry entries p.0 old found) is)
          ∙ sym (changed-there number entry entries p.0 change)
    ]

-- numbers stay at most those that have begun
pub begun-changed : (change : Call → Call) (number begun : ℕ) (entries : Entries) → AreBegun begun entries → AreBegun begun (with_changed change number entries)
begun-changed change number begun [] below = tt
begun-changed change number begun (entry ∷ entries) below =
    elim (eqb_tells entry.0 number) [
      | inl p ↦ subst (AreBegun begun) (sym (changed-here number entry entries p.0 change)) below
      | inr p ↦ subst (AreBegun begun) (sym (changed-there number entry entries p.0 change)) (below.0, begun-changed change number begun entries below.1)
    ]

pub begun-without : (number begun : ℕ) (entries : Entries) → AreBegun begun entries → AreBegun begun (without number entries)
begun-without number begun [] below = tt
begun-without number begun (entry ∷ entries) below =
    elim (eqb_tells entry.0 number) [
      | inl p ↦ subst (AreBegun begun) (sym (without-here number entry entries p.0)) below.1
      | inr p ↦ subst (AreBegun begun) (sym (without-there number entry entries p.0)) (below.0, begun-without number begun entries below.1)
    ]

pub begun-append : (begun : ℕ) (call : Call) (entries : Entries) → AreBegun begun entries → AreBegun (begun + 1) (entries ++ (begun + 1, call) ∷ [])
begun-append begun call [] h = (omega arith, tt)
begun-append begun call (entry ∷ entries) h = let low = h.0 in (omega arith, begun-append begun call entries h.1)

-- ---- what is refused for no cause
pub or_none : (x y : Option Refusal) → option_or x y ≡ None → y ≡ None
or_none None y e = e
or_none (Some r) y e = absurd (let clash : ◌≡◌ {A = Option Refusal} (Some r) None = e in cc)

pub not_broken : (broken : Bool) (refusal : Refusal) (y : Option Refusal) → option_or (refused_if broken refusal) y ≡ None → broken ≡ false
not_broken false refusal y e = refl
not_broken true refusal y e = absurd (let clash : ◌≡◌ {A = Option Refusal} (Some refusal) None = e in cc)

-- a call that can begin finds fewer open than there may be
pub begun_few : (C begun opened places : ℕ) (request : Request) → begin_fault C begun opened places request ≡ None → opened < MAX_OPEN_CALLS
begun_few C begun opened places request none =
    leb-false MAX_OPEN_CALLS opened (not_broken (nat_le MAX_OPEN_CALLS opened) TooManyCalls _ (or_none (refused_if (nat_le greatest_number begun) Spent) _ (or_none (request_fault C request) _ none)))
