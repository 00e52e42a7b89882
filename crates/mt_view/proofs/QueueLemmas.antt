-- The queue of the views: what is in it while views are opened, advanced and ended, and what its first turn says.
use Rattle.std.proofs.Common.{◌≡◌, ◌≢◌, ◌<◌, ◌≤◌, ◌⊎◌, ◌==◌, ℕ, IsTrue, Bool, true, false, not, cond, List, [], ◌∷◌, ◌++◌, length, Some, None, Option, subst, sym, ◌∙◌, ap, refl, arith, inl, inr}
use Rattle.std.specs.declared.cmp.Ordering.{Ordering}
use Rattle.std.specs.declared.cmp.Ordering.TheVariants.{Less, Equal, Greater}
use Rattle.std.specs.BTreeSet.{BTreeSet, IsLowerBound, IsUnchanged, Updates, contains}
use Rattle.std.specs.Cmp.{ranks}
use Rattle.std.specs.List.{list_any}
use Rattle.std.specs.Ordering.{nat_cmp, is_eq, is_gt, ordering_then, MatchOrdering}
use Rattle.std.proofs.lemmas.Bool.{eq-eqb, eqb-true, ne_eqb}
use Rattle.std.proofs.lemmas.Bool.Decides.{eqb_tells}
use Rattle.std.proofs.lemmas.Cmp.{nat_eq_equiv}
use Rattle.mt_view.specs.State.{StateView}
use Rattle.mt_view.specs.Views.{Rises, state_at, with_state, without}
use Rattle.mt_view.specs.ViewsFields.{IsQueueOf, stands_at, turn_cmp}
use Rattle.mt_view.proofs.ViewLemmas.{Entries, at_number, rises-to}
use Rattle.mt_view.proofs.StandingLemmas.{AllAfter, state-first}

abbrev pub Queue : Type 0
Queue = BTreeSet (ℕ × ℕ)

-- ---- what is found by a number after a change
with-here : (number : ℕ) (old new : StateView) (vs : Entries) → state_at number vs ≡ Some old → state_at number (with_state number new vs) ≡ Some new
with-here number old new [] at = absurd (cc)
with-here number old new (v ∷ vs) at =
    let first : ℕ × StateView → Option StateView = λ w. cond (w.0 == number) (Some w.1) (state_at number (with_state number new vs)) in
    elim (eqb_tells v.0 number) [
      | inl p ↦ ap (λ t. first (cond t (v.0, new) v)) p.0 ∙ ap (λ t. cond t (Some new) (state_at number (with_state number new vs))) p.0
      | inr p ↦ ap (λ t. first (cond t (v.0, new) v)) p.0 ∙ ap (λ t. cond t (Some v.1) (state_at number (with_state number new vs))) p.0
          ∙ with-here number old new vs (sym (ap (λ t. cond t (Some v.1) (state_at number vs)) p.0) ∙ at)
    ]

with-apart : (number other : ℕ) (new : StateView) (vs : Entries) → (number == other) ≡ false → state_at other (with_state number new vs) ≡ state_at other vs
with-apart number other new [] apart = refl
with-apart number other new (v ∷ vs) apart =
    let first : ℕ × StateView → Option StateView = λ w. cond (w.0 == other) (Some w.1) (state_at other (with_state number new vs)) in
    let rest : (t : Bool) → cond t (Some v.1) (state_at other (with_state number new vs)) ≡ cond t (Some v.1) (state_at other vs) = λ t. ap (cond t (Some v.1)) (with-apart number other new vs apart) in
    elim (eqb_tells v.0 number) [
      | inl p ↦ (let off : (v.0 == other) ≡ false = ap (λ (n : ℕ). n == other) p.1 ∙ apart in
          ap (λ t. first (cond t (v.0, new) v)) p.0 ∙ ap (λ t. cond t (Some new) (state_at other (with_state number new vs))) off
          ∙ with-apart number other new vs apart ∙ sym (ap (λ t. cond t (Some v.1) (state_at other vs)) off))
      | inr p ↦ ap (λ t. first (cond t (v.0, new) v)) p.0 ∙ rest (v.0 == other)
    ]

without-here : (number : ℕ) (vs : Entries) → state_at number (without number vs) ≡ None
without-here number [] = refl
without-here number (v ∷ vs) =
    let found : Bool → Option StateView = λ t. state_at number (cond (not t) (v ∷ without number vs) (without number vs)) in
    elim (eqb_tells v.0 number) [
      | inl p ↦ ap found p.0 ∙ without-here number vs
      | inr p ↦ ap found p.0 ∙ ap (λ t. cond t (Some v.1) (state_at number (without number vs))) p.0 ∙ without-here number vs
    ]

without-apart : (number other : ℕ) (vs : Entries) → (number == other) ≡ false → state_at other (without number vs) ≡ state_at other vs
without-apart number other [] apart = refl
without-apart number other (v ∷ vs) apart =
    let found : Bool → Option StateView = λ t. state_at other (cond (not t) (v ∷ without number vs) (without number vs)) in
    elim (eqb_tells v.0 number) [
      | inl p ↦ (let off : (v.0 == other) ≡ false = ap (λ (n : ℕ). n == other) p.1 ∙ apart in
          ap found p.0 ∙ without-apart number other vs apart ∙ sym (ap (λ t. cond t (Some v.1) (state_at other vs)) off))
      | inr p ↦ ap found p.0 ∙ ap (cond (v.0 == other) (Some v.1)) (without-apart number other vs apart)
    ]

-- a number above all is not found, and is where a view of it is put at the end
pub absent-above : (number low high : ℕ) (vs : Entries) → high < number → Rises low high vs → state_at number vs ≡ None
absent-above number low high [] above rises = refl
absent-above number low high (v ∷ vs) above rises =
    let within = rises-to v.0 high vs rises.1 in
    ap (λ t. cond t (Some v.1) (state_at number vs)) (ne_eqb v.0 number (λ e. omega (arith, within, above, e))) ∙ absent-above number v.0 high vs above rises.1

append-here : (number : ℕ) (new : StateView) (vs : Entries) → state_at number vs ≡ None → state_at number (vs ++ (number, new) ∷ []) ≡ Some new
append-here number new [] absent = ap (λ t. cond t (Some new) None) (eq-eqb number number refl)
append-here number new (v ∷ vs) absent = elim (eqb_tells v.0 number) [
  | inl p ↦ absurd (let clash : ◌≡◌ {A = Option StateView} (Some v.1) None = sym (ap (λ t. cond t (Some v.1) (state_at number vs)) p.0) ∙ absent in cc)
  | inr p ↦ ap (λ t. cond t (Some v.1) (state_at number (vs ++ (number, new) ∷ []))) p.0
      ∙ append-here number new vs (sym (ap (λ t. cond t (Some v.1) (state_at number vs)) p.0) ∙ absent)
]

append-apart : (number other : ℕ) (new : StateView) (vs : Entries) → (number == other) ≡ false → state_at other (vs ++ (number, new) ∷ []) ≡ state_at other vs
append-apart number other new [] apart = ap (λ t. cond t (Some new) None) apart
append-apart number other new (v ∷ vs) apart = ap (cond (v.0 == other) (Some v.1)) (append-apart number other new vs apart)

-- ---- turns
then-equal : (one other : Ordering) → is_eq (ordering_then one other) ≡ cond (is_eq other) (is_eq one) false
then-equal Less Less = refl
then-equal Less Equal = refl
then-equal Less Greater = refl
then-equal Equal Less = refl
then-equal Equal Equal = refl
then-equal Equal Greater = refl
then-equal Greater Less = refl
then-equal Greater Equal = refl
then-equal Greater Greater = refl

-- two turns are one if both their numbers are
turn-equal : (at number other_at other : ℕ) → is_eq (turn_cmp (at, number) (other_at, other)) ≡ cond (number == other) (at == other_at) false
turn-equal at number other_at other =
    then-equal (nat_cmp at other_at) (nat_cmp number other)
    ∙ ap (λ t. cond t (is_eq (nat_cmp at other_at)) false) (at_number number other ∙ nat_eq_equiv.symm other number)
    ∙ ap (λ t. cond (number == other) t false) (at_number at other_at ∙ nat_eq_equiv.symm other_at at)

-- if one turn is not after another
turn-order : (at number other_at other : ℕ) → is_gt (turn_cmp (at, number) (other_at, other)) ≡ false → (at < other_at) ⊎ ((at ≡ other_at) × (number ≤ other))
turn-order at number other_at other =
    elim (nat_cmp at other_at) as (λ first. MatchOrdering first (at < other_at) (at ≡ other_at) (other_at < at) → is_gt (ordering_then first (nat_cmp number other)) ≡ false → (at < other_at) ⊎ ((at ≡ other_at) × (number ≤ other))) [
      | Less ↦ λ below no. inl below
      | Equal ↦ λ same no. inr (same, no_more no)
      | Greater ↦ λ above no. absurd (let clash : true ≡ false = no in cc)
    ] (ranks at other_at)
  where
    no_more : is_gt (nat_cmp number other) ≡ false → number ≤ other
    no_more = elim (nat_cmp number other) as (λ second. MatchOrdering second (number < other) (number ≡ other) (other < number) → is_gt second ≡ false → number ≤ other) [
      | Less ↦ λ below no. omega (arith, below)
      | Equal ↦ λ same no. omega (arith, same)
      | Greater ↦ λ above no. absurd (let clash : true ≡ false = no in cc)
    ] (ranks number other)

-- one more turn in the queue, or one fewer: of other views all stays, and of this one what is at another number of commits
changed-apart : (at number other_at other : ℕ) (put : Bool) (old new : Queue) → Updates turn_cmp old new (at, number) put → (number == other) ≡ false
    → contains turn_cmp new (other_at, other) ≡ contains turn_cmp old (other_at, other)
changed-apart at number other_at other put old new change apart =
    change.0 (other_at, other) ∙ ap (λ t. cond t put (contains turn_cmp old (other_at, other))) (turn-equal at number other_at other ∙ ap (λ t. cond t (at == other_at) false) apart)

changed-here : (at number other_at : ℕ) (put : Bool) (old new : Queue) → Updates turn_cmp old new (at, number) put
    → contains turn_cmp new (other_at, number) ≡ cond (at == other_at) put (contains turn_cmp old (other_at, number))
changed-here at number other_at put old new change =
    change.0 (other_at, number) ∙ ap (λ t. cond t put (contains turn_cmp old (other_at, number))) (turn-equal at number other_at number ∙ ap (λ t. cond t (at == other_at) false) (eq-eqb number number refl))

-- the same turn, by what its number of commits is
pub turn-is : (at other_at number : ℕ) (put : Bool) (old new : Queue) → at ≡ other_at → Updates turn_cmp old new (at, number) put → Updates turn_cmp old new (other_at, number) put
turn-is at other_at number put old new same change = subst (λ (n : ℕ). Updates turn_cmp old new (n, number) put) same change

-- it is enough to know the turns of one number, and that all others stay
queue-by-number : (number : ℕ) (vs ws : Entries) (old new : Queue) → IsQueueOf vs old
    → ((at : ℕ) → contains turn_cmp new (at, number) ≡ stands_at at (state_at number ws))
    → ((at other : ℕ) → (number == other) ≡ false → contains turn_cmp new (at, other) ≡ contains turn_cmp old (at, other))
    → ((other : ℕ) → (number == other) ≡ false → state_at other ws ≡ state_at other vs)
    → IsQueueOf ws new
queue-by-number number vs ws old new queued here others views at other = elim (eqb_tells number other) [
  | inl p ↦ ap (λ (n : ℕ). contains turn_cmp new (at, n)) (sym p.1) ∙ here at ∙ ap (λ (n : ℕ). stands_at at (state_at n ws)) p.1
  | inr p ↦ others at other p.0 ∙ queued at other ∙ ap (stands_at at) (sym (views other p.0))
]

-- a test chooses itself
itself : (t : Bool) → cond t true false ≡ t
itself true = refl
itself false = refl

-- ---- the queue through the calls
-- the same keys are the same queue
pub queue-unchanged : (vs : Entries) (old new : Queue) → IsUnchanged old new → IsQueueOf vs old → IsQueueOf vs new
queue-unchanged vs old new same queued at number = ap (λ (keys : List (ℕ × ℕ)). list_any (λ (k : ℕ × ℕ). is_eq (turn_cmp (at, number) k)) keys) same ∙ queued at number

-- a view is opened
pub queue-opened : (number low high : ℕ) (state : StateView) (vs : Entries) (old new : Queue) → high < number → Rises low high vs → IsQueueOf vs old
    → Updates turn_cmp old new (state.at, number) true → IsQueueOf (vs ++ (number, state) ∷ []) new
queue-opened number low high state vs old new above rises queued put =
    let absent = absent-above number low high vs above rises in
    queue-by-number number vs (vs ++ (number, state) ∷ []) old new queued
    (λ at. changed-here state.at number at true old new put ∙ ap (cond (state.at == at) true) (queued at number ∙ ap (stands_at at) absent) ∙ itself (state.at == at)
    ∙ ap (stands_at at) (sym (append-here number state vs absent)))
    (λ at other. changed-apart state.at number at other true old new put)
    (λ other. append-apart number other state vs)

-- a turn that was put in is taken out again
pub queue-undone : (at number : ℕ) (vs : Entries) (old more new : Queue) → stands_at at (state_at number vs) ≡ false → IsQueueOf vs old
    → Updates turn_cmp old more (at, number) true → Updates turn_cmp more new (at, number) false → IsQueueOf vs new
queue-undone at number vs old more new free queued put out =
    queue-by-number number vs vs old new queued
    (λ other_at. changed-here at number other_at false more new out ∙ ap (cond (at == other_at) false) (changed-here at number other_at true old more put)
    ∙ elim (eqb_tells at other_at) [
      | inl p ↦ ap (λ t. cond t false (cond t true (contains turn_cmp old (other_at, number)))) p.0 ∙ sym free ∙ ap (λ (n : ℕ). stands_at n (state_at number vs)) p.1
      | inr p ↦ ap (λ t. cond t false (cond t true (contains turn_cmp old (other_at, number)))) p.0 ∙ queued other_at number
    ])
    (λ other_at other apart. changed-apart at number other_at other false more new out apart ∙ changed-apart at number other_at other true old more put apart)
    (λ other apart. refl)

-- a view advances to another number of commits
pub queue-moved : (number : ℕ) (state new_state : StateView) (vs : Entries) (old more new : Queue) → (state.at ≢ new_state.at) → state_at number vs ≡ Some state → IsQueueOf vs old
    → Updates turn_cmp old more (new_state.at, number) true → Updates turn_cmp more new (state.at, number) false → IsQueueOf (with_state number new_state vs) new
queue-moved number state new_state vs old more new moves at queued put out =
    queue-by-number number vs (with_state number new_state vs) old new queued
    (λ other_at. changed-here state.at number other_at false more new out
    ∙ ap (cond (state.at == other_at) false) (changed-here new_state.at number other_at true old more put
    ∙ ap (cond (new_state.at == other_at) true) (queued other_at number ∙ ap (stands_at other_at) at))
    ∙ moved other_at
    ∙ ap (stands_at other_at) (sym (with-here number state new_state vs at)))
    (λ other_at other apart. changed-apart state.at number other_at other false more new out apart ∙ changed-apart new_state.at number other_at other true old more put apart)
    (λ other. with-apart number other new_state vs)
  where
    moved : (other_at : ℕ) → cond (state.at == other_at) false (cond (new_state.at == other_at) true (state.at == other_at)) ≡ (new_state.at == other_at)
    moved other_at = elim (eqb_tells state.at other_at) [
      | inl p ↦ ap (λ t. cond t false (cond (new_state.at == other_at) true t)) p.0 ∙ sym (ne_eqb new_state.at other_at (λ e. moves (p.1 ∙ sym e)))
      | inr p ↦ ap (λ t. cond t false (cond (new_state.at == other_at) true t)) p.0 ∙ itself (new_state.at == other_at)
    ]

-- a view comes to another state and stays at the same number of commits
pub queue-stays : (number : ℕ) (state new_state : StateView) (vs : Entries) (queue : Queue) → state.at ≡ new_state.at → state_at number vs ≡ Some state → IsQueueOf vs queue
    → IsQueueOf (with_state number new_state vs) queue
queue-stays number state new_state vs queue same at queued =
    queue-by-number number vs (with_state number new_state vs) queue queue queued
    (λ other_at. queued other_at number ∙ ap (stands_at other_at) at ∙ ap (λ (n : ℕ). n == other_at) same ∙ ap (stands_at other_at) (sym (with-here number state new_state vs at)))
    (λ other_at other apart. refl)
    (λ other. with-apart number other new_state vs)

-- a view ends
pub queue-ended : (number : ℕ) (state : StateView) (vs : Entries) (old new : Queue) → state_at number vs ≡ Some state → IsQueueOf vs old
    → Updates turn_cmp old new (state.at, number) false → IsQueueOf (without number vs) new
queue-ended number state vs old new at queued out =
    queue-by-number number vs (without number vs) old new queued
    (λ other_at. changed-here state.at number other_at false old new out ∙ ap (cond (state.at == other_at) false) (queued other_at number ∙ ap (stands_at other_at) at)
    ∙ gone (state.at == other_at) ∙ ap (stands_at other_at) (sym (without-here number vs)))
    (λ other_at other. changed-apart state.at number other_at other false old new out)
    (λ other. without-apart number other vs)
  where
    gone : (t : Bool) → cond t false t ≡ false
    gone true = refl
    gone false = refl

-- ---- the first of the queue
-- a turn in the queue is that of a view
pub turn-stands : (at number : ℕ) (vs : Entries) (queue : Queue) → IsQueueOf vs queue → IsTrue (contains turn_cmp queue (at, number)) → (state : StateView) × (state_at number vs ≡ Some state) × (state.at ≡ at)
turn-stands at number vs queue queued has = by_state (state_at number vs) refl
  where
    by_state : (found : Option StateView) → state_at number vs ≡ found → (state : StateView) × (state_at number vs ≡ Some state) × (state.at ≡ at)
    by_state None is = absurd (let clash : false ≡ true = sym (queued at number ∙ ap (stands_at at) is) ∙ has in cc)
    by_state (Some state) is = (state, is, eqb-true state.at at (sym (queued at number ∙ ap (stands_at at) is) ∙ has))

-- a view's turn is in the queue
view-queued : (number : ℕ) (state : StateView) (vs : Entries) (queue : Queue) → IsQueueOf vs queue → state_at number vs ≡ Some state → IsTrue (contains turn_cmp queue (state.at, number))
view-queued number state vs queue queued at = queued state.at number ∙ ap (stands_at state.at) at ∙ eq-eqb state.at state.at refl

-- after the least turn of the queue come all views
pub after-least : (at number : ℕ) (vs : Entries) (queue : Queue) → IsQueueOf vs queue → IsLowerBound turn_cmp queue (at, number) → AllAfter at number vs
after-least at number vs queue queued least other state found = turn-order at number state.at other (least (state.at, other) (view-queued other state vs queue queued found))

-- if the queue is empty, there is no view
pub empty-queue : (vs : Entries) (queue : Queue) → IsQueueOf vs queue → (0 < length queue.keys → ⊥) → vs ≡ []
empty-queue [] queue queued none = refl
empty-queue (v ∷ vs) queue queued none = absurd (some queue.keys none (view-queued v.0 v.1 (v ∷ vs) queue queued (state-first v vs)))
  where
    some : (keys : List (ℕ × ℕ)) → (0 < length keys → ⊥) → list_any (λ (k : ℕ × ℕ). is_eq (turn_cmp (v.1.at, v.0) k)) keys ≡ true → ⊥
    some [] none has = let clash : false ≡ true = has in cc
    some (k ∷ keys) none has = none (omega arith)
