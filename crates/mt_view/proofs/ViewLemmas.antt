-- Views by their numbers: what the map finds, takes in, writes over and leaves.
use Rattle.std.proofs.Common.{◌≡◌, ◌<◌, ◌≤◌, ◌+◌, ◌==◌, ℕ, IsSome, false, Bool, true, not, cond, List, [], ◌∷◌, ◌++◌, length, Some, sym, ◌∙◌, ap, refl, arith, inl, inr, Option, None}
use Rattle.std.specs.Prelude.{eqb}
use Rattle.std.specs.declared.cmp.Ordering.TheVariants.{Less, Equal, Greater}
use Rattle.std.specs.Cmp.{nat_cmp_is, ranks}
use Rattle.std.specs.Map.{lookup, set_value, remove_entry}
use Rattle.std.specs.Ordering.{nat_cmp, is_eq, match_ordering, MatchOrdering}
use Rattle.std.specs.BTreeMap.{insert_entry, is_at}
use Rattle.std.proofs.lemmas.Bool.{eq-eqb, ne_eqb}
use Rattle.std.proofs.lemmas.List.{length-map}
use Rattle.std.proofs.lemmas.Bool.Decides.{eqb_tells}
use Rattle.mt_view.specs.State.{StateView}
use Rattle.mt_view.specs.Views.{Rises, state_at, with_state, without}

abbrev pub Entries : Type 0
Entries = List (ℕ × StateView)

-- to be at a key is to have its number
pub at_number : (number other : ℕ) → is_eq (nat_cmp number other) ≡ (other == number)
at_number number other =
    elim (nat_cmp number other) as (λ order. MatchOrdering order (number < other) (number ≡ other) (other < number) → is_eq order ≡ eqb other number) [
      | Less ↦ λ below. sym (ne_eqb other number (λ e. omega arith))
      | Equal ↦ λ same. sym (eq-eqb other number (sym same))
      | Greater ↦ λ above. sym (ne_eqb other number (λ e. omega arith))
    ] (ranks number other)

-- ---- views whose numbers are all above one
pub state-above : (number low high : ℕ) (state : StateView) (vs : Entries) → number ≤ low → Rises low high vs → with_state number state vs ≡ vs
state-above number low high state [] le rises = refl
state-above number low high state (v ∷ vs) le rises =
    let above = rises.0 in
    ap (λ t. cond t (v.0, state) v ∷ with_state number state vs) (ne_eqb v.0 number (λ e. omega (arith, above, le, e)))
    ∙ ap (λ (l : Entries). v ∷ l) (state-above number v.0 high state vs (omega (arith, above, le)) rises.1)

pub without-above : (number low high : ℕ) (vs : Entries) → number ≤ low → Rises low high vs → without number vs ≡ vs
without-above number low high [] le rises = refl
without-above number low high (v ∷ vs) le rises =
    let above = rises.0 in
    ap (λ t. cond (not t) (v ∷ without number vs) (without number vs)) (ne_eqb v.0 number (λ e. omega (arith, above, le, e)))
    ∙ ap (λ (l : Entries). v ∷ l) (without-above number v.0 high vs (omega (arith, above, le)) rises.1)

-- ---- what the map does
pub lookup-state : (number : ℕ) (vs : Entries) → lookup (is_at (nat_cmp number)) vs ≡ state_at number vs
lookup-state number [] = refl
lookup-state number (v ∷ vs) =
    ap (λ found. cond found (Some v.1) (lookup (is_at (nat_cmp number)) vs)) (at_number number v.0)
    ∙ ap (cond (v.0 == number) (Some v.1)) (lookup-state number vs)

pub set-state : (number low high : ℕ) (state : StateView) (vs : Entries) → Rises low high vs → set_value (is_at (nat_cmp number)) vs state ≡ with_state number state vs
set-state number low high state [] rises = refl
set-state number low high state (v ∷ vs) rises =
    let set_here : Bool → Entries = λ here. cond here ((v.0, state) ∷ vs) (v ∷ set_value (is_at (nat_cmp number)) vs state) in
    let with_here : Bool → Entries = λ here. cond here (v.0, state) v ∷ with_state number state vs in
    ap set_here (at_number number v.0)
    ∙ elim (eqb_tells v.0 number) [
      | inl p ↦ (let same = p.1 in ap set_here p.0 ∙ ap (λ (l : Entries). (v.0, state) ∷ l) (sym (state-above number v.0 high state vs (omega (arith, same)) rises.1)) ∙ sym (ap with_here p.0))
      | inr p ↦ ap set_here p.0 ∙ ap (λ (l : Entries). v ∷ l) (set-state number v.0 high state vs rises.1) ∙ sym (ap with_here p.0)
    ]

pub remove-view : (number low high : ℕ) (vs : Entries) → Rises low high vs → remove_entry (is_at (nat_cmp number)) vs ≡ without number vs
remove-view number low high [] rises = refl
remove-view number low high (v ∷ vs) rises =
    let remove_here : Bool → Entries = λ here. cond here vs (v ∷ remove_entry (is_at (nat_cmp number)) vs) in
    let without_here : Bool → Entries = λ here. cond (not here) (v ∷ without number vs) (without number vs) in
    ap remove_here (at_number number v.0)
    ∙ elim (eqb_tells v.0 number) [
      | inl p ↦ (let same = p.1 in ap remove_here p.0 ∙ sym (without-above number v.0 high vs (omega (arith, same)) rises.1) ∙ sym (ap without_here p.0))
      | inr p ↦ ap remove_here p.0 ∙ ap (λ (l : Entries). v ∷ l) (remove-view number v.0 high vs rises.1) ∙ sym (ap without_here p.0)
    ]

-- the numbers stay below the high end
pub rises-to : (low high : ℕ) (vs : Entries) → Rises low high vs → low ≤ high
rises-to low high [] rises = rises
rises-to low high (v ∷ vs) rises = let first = rises.0 in let rest = rises-to v.0 high vs rises.1 in omega (arith, first, rest)

-- the next number is at the end
pub insert-view : (low high number : ℕ) (state : StateView) (vs : Entries) → high < number → Rises low high vs → insert_entry nat_cmp vs number state ≡ vs ++ (number, state) ∷ []
insert-view low high number state [] above rises = refl
insert-view low high number state (v ∷ vs) above rises =
    let within = rises-to v.0 high vs rises.1 in
    let after : nat_cmp number v.0 ≡ Greater = sym (nat_cmp_is number v.0 Greater (omega (arith, within, above))) in
    ap (λ order. match_ordering order ((number, state) ∷ v ∷ vs) ((v.0, state) ∷ vs) (v ∷ insert_entry nat_cmp vs number state)) after
    ∙ ap (λ (l : Entries). v ∷ l) (insert-view v.0 high number state vs above rises.1)

-- ---- the numbers rise on
pub rises-append : (low high : ℕ) (state : StateView) (vs : Entries) → Rises low high vs → Rises low (high + 1) (vs ++ (high + 1, state) ∷ [])
rises-append low high state [] rises = (omega (arith, rises), omega arith)
rises-append low high state (v ∷ vs) rises = (rises.0, rises-append v.0 high state vs rises.1)

pub rises-state : (number low high : ℕ) (state : StateView) (vs : Entries) → Rises low high vs → Rises low high (with_state number state vs)
rises-state number low high state [] rises = rises
rises-state number low high state (v ∷ vs) rises =
    elim (v.0 == number) as (λ (t : Bool). Rises low high (cond t (v.0, state) v ∷ with_state number state vs)) [
      | true ↦ (rises.0, rises-state number v.0 high state vs rises.1)
      | false ↦ (rises.0, rises-state number v.0 high state vs rises.1)
    ]

rises-wider : (low lower high : ℕ) (vs : Entries) → lower ≤ low → Rises low high vs → Rises lower high vs
rises-wider low lower high [] le rises = omega (arith, le, rises)
rises-wider low lower high (v ∷ vs) le rises = let first = rises.0 in (omega (arith, le, first), rises.1)

pub rises-without : (number low high : ℕ) (vs : Entries) → Rises low high vs → Rises low high (without number vs)
rises-without number low high [] rises = rises
rises-without number low high (v ∷ vs) rises =
    elim (v.0 == number) as (λ (t : Bool). Rises low high (cond (not t) (v ∷ without number vs) (without number vs))) [
      | true ↦ (let first = rises.0 in rises-wider v.0 low high (without number vs) (omega (arith, first)) (rises-without number v.0 high vs rises.1))
      | false ↦ (rises.0, rises-without number v.0 high vs rises.1)
    ]

-- ---- how many there are
pub as-many-with-state : (number : ℕ) (state : StateView) (vs : Entries) → length (with_state number state vs) ≡ length vs
as-many-with-state number state vs = length-map vs (λ (v : ℕ × StateView). cond (v.0 == number) (v.0, state) v)

pub fewer-without : (number : ℕ) (vs : Entries) → length (without number vs) ≤ length vs
fewer-without number [] = omega arith
fewer-without number (v ∷ vs) =
    let rest = fewer-without number vs in
    elim (v.0 == number) as (λ (t : Bool). length (cond (not t) (v ∷ without number vs) (without number vs)) ≤ length (v ∷ vs)) [ true ↦ omega (arith, rest) | false ↦ omega (arith, rest) ]

-- a state that is replaced by the same state
pub state-itself : (number low high : ℕ) (state : StateView) (vs : Entries) → Rises low high vs → state_at number vs ≡ Some state → with_state number state vs ≡ vs
state-itself number low high state [] rises at = refl
state-itself number low high state (v ∷ vs) rises at =
    let with_here : Bool → Entries = λ here. cond here (v.0, state) v ∷ with_state number state vs in
    let at_here : Bool → Option StateView = λ here. cond here (Some v.1) (state_at number vs) in
    elim (eqb_tells v.0 number) [
      | inl p ↦ (let same = p.1 in
          let both : Some v.1 ≡ Some state = sym (ap at_here p.0) ∙ at in
          let one : v.1 ≡ state = cc in
          ap with_here p.0 ∙ ap (λ (s : StateView). (v.0, s) ∷ with_state number state vs) (sym one)
          ∙ ap (λ (l : Entries). v ∷ l) (state-above number v.0 high state vs (omega (arith, same)) rises.1))
      | inr p ↦ ap with_here p.0 ∙ ap (λ (l : Entries). v ∷ l) (state-itself number v.0 high state vs rises.1 (sym (ap at_here p.0) ∙ at))
    ]

-- ---- what is found is one
pub never_none : (o : Option StateView) → IsSome o → o ≡ None → ⊥
never_none (Some s) some is = let clash : ◌≡◌ {A = Option StateView} (Some s) None = is in cc
never_none None some is = let clash : false ≡ true = some in cc

pub same_state : (one other : StateView) {o : Option StateView} → Some one ≡ o → o ≡ Some other → one ≡ other
same_state one other is at = let both : Some one ≡ Some other = is ∙ at in cc
