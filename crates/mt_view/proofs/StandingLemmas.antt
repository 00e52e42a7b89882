-- The views as a history has them: what is found there, moved, dropped and furthest behind.
use Rattle.std.proofs.Common.{◌≡◌, ◌<◌, ◌≤◌, ◌⊎◌, ◌+◌, IfSome, subst, ◌==◌, ℕ, false, Bool, true, not, cond, List, [], ◌∷◌, ◌++◌, map, Some, None, Option, sym, ◌∙◌, ap, refl, arith, inl, inr}
use Rattle.std.proofs.lemmas.Bool.{eq-eqb, le-ltb, lt-ltb, ne_eqb}
use Rattle.std.proofs.lemmas.Bool.Decides.{eqb_tells}
use Rattle.std.specs.Prelude.{nat_lt}
use Rattle.mt_promise.specs.History.{StandingView, furthest, view_of, without_view}
use Rattle.mt_view.specs.State.{StateView}
use Rattle.mt_view.specs.Views.{Rises, all_standing, standing, state_at, with_state, without}
use Rattle.mt_view.proofs.ViewLemmas.{Entries, state-above}

-- a number is found there with the state that it has, or not at all
pub view-of-state : (number : ℕ) (vs : Entries) (state : StateView) → state_at number vs ≡ Some state → view_of number (all_standing vs) ≡ Some (standing (number, state))
view-of-state number [] state at = absurd (cc)
view-of-state number (v ∷ vs) state at = elim (eqb_tells v.0 number) [
  | inl p ↦ (let same : Some v.1 ≡ Some state = sym (ap (λ t. cond t (Some v.1) (state_at number vs)) p.0) ∙ at in
      let one : v.1 ≡ state = cc in
      ap (λ t. cond t (Some (standing v)) (view_of number (all_standing vs))) p.0 ∙ ap (λ (n : ℕ). Some (standing (n, v.1))) p.1 ∙ ap (λ (s : StateView). Some (standing (number, s))) one)
  | inr p ↦ ap (λ t. cond t (Some (standing v)) (view_of number (all_standing vs))) p.0
      ∙ view-of-state number vs state (sym (ap (λ t. cond t (Some v.1) (state_at number vs)) p.0) ∙ at)
]

pub view-of-none : (number : ℕ) (vs : Entries) → state_at number vs ≡ None → view_of number (all_standing vs) ≡ None
view-of-none number [] at = refl
view-of-none number (v ∷ vs) at = elim (eqb_tells v.0 number) [
  | inl p ↦ absurd (let clash : ◌≡◌ {A = Option StateView} (Some v.1) None = sym (ap (λ t. cond t (Some v.1) (state_at number vs)) p.0) ∙ at in cc)
  | inr p ↦ ap (λ t. cond t (Some (standing v)) (view_of number (all_standing vs))) p.0
      ∙ view-of-none number vs (sym (ap (λ t. cond t (Some v.1) (state_at number vs)) p.0) ∙ at)
]

-- a view that advances by one is one further
abbrev further : ℕ → StandingView → StandingView
further number v = cond (v.number == number) (record v { at = v.at + 1 }) v

moved-above : (number low high : ℕ) (vs : Entries) → number ≤ low → Rises low high vs → map (further number) (all_standing vs) ≡ all_standing vs
moved-above number low high [] le rises = refl
moved-above number low high (v ∷ vs) le rises =
    let above = rises.0 in
    ap (λ t. cond t (record (standing v) { at = v.1.at + 1 }) (standing v) ∷ map (further number) (all_standing vs)) (ne_eqb v.0 number (λ e. omega (arith, above, le, e)))
    ∙ ap (λ (l : List StandingView). standing v ∷ l) (moved-above number v.0 high vs (omega (arith, above, le)) rises.1)

pub moved-on : (number low high : ℕ) (vs : Entries) (old new : StateView) → Rises low high vs → state_at number vs ≡ Some old → new.spec ≡ old.spec → new.at ≡ old.at + 1
    → map (further number) (all_standing vs) ≡ all_standing (with_state number new vs)
moved-on number low high [] old new rises at spec one = absurd (cc)
moved-on number low high (v ∷ vs) old new rises at spec one =
    let moved_here : Bool → List StandingView = λ t. cond t (record (standing v) { at = v.1.at + 1 }) (standing v) ∷ map (further number) (all_standing vs) in
    let state_here : Bool → List StandingView = λ t. standing (cond t (v.0, new) v) ∷ all_standing (with_state number new vs) in
    elim (eqb_tells v.0 number) [
      | inl p ↦ (let same : Some v.1 ≡ Some old = sym (ap (λ t. cond t (Some v.1) (state_at number vs)) p.0) ∙ at in
          let is : v.1 ≡ old = cc in
          let low_is = p.1 in
          let rest = moved-above number v.0 high vs (omega (arith, low_is)) rises.1 in
          let kept = state-above number v.0 high new vs (omega (arith, low_is)) rises.1 in
          let at_is : v.1.at + 1 ≡ new.at = ap (λ (s : StateView). s.at + 1) is ∙ sym one in
          let spec_is : v.1.spec ≡ new.spec = ap (λ (s : StateView). s.spec) is ∙ sym spec in
          ap moved_here p.0
          ∙ ap (λ (l : List StandingView). record (standing v) { at = v.1.at + 1 } ∷ l) (rest ∙ ap all_standing (sym kept))
          ∙ ap (λ (n : ℕ). record (standing v) { at = n } ∷ all_standing (with_state number new vs)) at_is
          ∙ ap (λ s. record { number = v.0; spec = s; at = new.at } ∷ all_standing (with_state number new vs)) spec_is
          ∙ sym (ap state_here p.0))
      | inr p ↦ ap moved_here p.0
          ∙ ap (λ (l : List StandingView). standing v ∷ l) (moved-on number v.0 high vs old new rises.1 (sym (ap (λ t. cond t (Some v.1) (state_at number vs)) p.0) ∙ at) spec one)
          ∙ sym (ap state_here p.0)
    ]

-- a view that is dropped is dropped there
pub dropped-there : (number : ℕ) (vs : Entries) → without_view number (all_standing vs) ≡ all_standing (without number vs)
dropped-there number [] = refl
dropped-there number (v ∷ vs) =
    elim (v.0 == number) as (λ (t : Bool). cond (not t) (standing v ∷ without_view number (all_standing vs)) (without_view number (all_standing vs)) ≡ all_standing (cond (not t) (v ∷ without number vs) (without number vs))) [
      | true ↦ dropped-there number vs
      | false ↦ ap (λ (l : List StandingView). standing v ∷ l) (dropped-there number vs)
    ]

-- one more view is at the end there too
pub opened-there : (vs : Entries) (new : ℕ × StateView) → all_standing (vs ++ new ∷ []) ≡ all_standing vs ++ standing new ∷ []
opened-there [] new = refl
opened-there (v ∷ vs) new = ap (λ (l : List StandingView). standing v ∷ l) (opened-there vs new)

-- ---- the view that is furthest behind
-- what is found is the first, or found among the later
found-here : (number : ℕ) (state : StateView) (v : ℕ × StateView) (vs : Entries) → (v.0 == number) ≡ true → state_at number (v ∷ vs) ≡ Some state → v.1 ≡ state
found-here number state v vs here at = let same : Some v.1 ≡ Some state = sym (ap (λ t. cond t (Some v.1) (state_at number vs)) here) ∙ at in cc

found-later : (number : ℕ) (state : StateView) (v : ℕ × StateView) (vs : Entries) → (v.0 == number) ≡ false → state_at number (v ∷ vs) ≡ Some state → state_at number vs ≡ Some state
found-later number state v vs apart at = sym (ap (λ t. cond t (Some v.1) (state_at number vs)) apart) ∙ at

-- a number that is found is above the low end
state-is-above : (number low high : ℕ) (state : StateView) (vs : Entries) → Rises low high vs → state_at number vs ≡ Some state → low < number
state-is-above number low high state [] rises at = absurd (cc)
state-is-above number low high state (v ∷ vs) rises at =
    let first = rises.0 in
    elim (eqb_tells v.0 number) [
      | inl p ↦ (let same = p.1 in omega (arith, first, same))
      | inr p ↦ (let rest = state-is-above number v.0 high state vs rises.1 (found-later number state v vs p.0 at) in omega (arith, first, rest))
    ]

-- what is found among the later views is found among all
state-later : (number low high : ℕ) (state : StateView) (v : ℕ × StateView) (vs : Entries) → Rises low high (v ∷ vs) → state_at number vs ≡ Some state → state_at number (v ∷ vs) ≡ Some state
state-later number low high state v vs rises at =
    let above = state-is-above number v.0 high state vs rises.1 at in
    ap (λ t. cond t (Some v.1) (state_at number vs)) (ne_eqb v.0 number (λ e. omega (arith, above, e))) ∙ at

-- the first is found at its own number
pub state-first : (v : ℕ × StateView) (vs : Entries) → state_at v.0 (v ∷ vs) ≡ Some v.1
state-first v vs = ap (λ t. cond t (Some v.1) (state_at v.0 vs)) (eq-eqb v.0 v.0 refl)

-- none of these stands before a number of commits
abbrev NoneBefore : ℕ → Entries → Type 0
NoneBefore at vs = (number : ℕ) (state : StateView) → state_at number vs ≡ Some state → at ≤ state.at

furthest-stays : (low high : ℕ) (best : StandingView) (vs : Entries) → Rises low high vs → NoneBefore best.at vs → furthest (Some best) (all_standing vs) ≡ Some best
furthest-stays low high best [] rises none = refl
furthest-stays low high best (v ∷ vs) rises none =
    let first = none v.0 v.1 (state-first v vs) in
    ap (λ t. furthest (Some (cond t (standing v) best)) (all_standing vs)) (le-ltb v.1.at best.at first)
    ∙ furthest-stays v.0 high best vs rises.1 (λ number state at. none number state (state-later number low high state v vs rises at))

-- each of these stands further on than a number of commits, or as far with no lesser number
abbrev pub AllAfter : ℕ → ℕ → Entries → Type 0
AllAfter at number vs = (other : ℕ) (state : StateView) → state_at other vs ≡ Some state → (at < state.at) ⊎ ((at ≡ state.at) × (number ≤ other))

-- so does each of the later views
all-later : (low high at number : ℕ) (v : ℕ × StateView) (vs : Entries) → Rises low high (v ∷ vs) → AllAfter at number (v ∷ vs) → AllAfter at number vs
all-later low high at number v vs rises all = λ other state found. all other state (state-later other low high state v vs rises found)

-- it is the first of these
furthest-here : (number low high : ℕ) (state : StateView) (v : ℕ × StateView) (vs : Entries) → Rises low high (v ∷ vs) → (v.0 == number) ≡ true → v.0 ≡ number → state_at number (v ∷ vs) ≡ Some state
    → AllAfter state.at number (v ∷ vs) → furthest (Some (standing v)) (all_standing vs) ≡ Some (standing (number, state))
furthest-here number low high state v vs rises here is at all =
    let same = found-here number state v vs here at in
    let none : NoneBefore v.1.at vs = λ other found_state found. subst (λ (s : StateView). s.at ≤ found_state.at) (sym same) (no-earlier (all other found_state (state-later other low high found_state v vs rises found))) in
    furthest-stays v.0 high (standing v) vs rises.1 none
    ∙ ap (λ (n : ℕ). Some (standing (n, v.1))) is ∙ ap (λ (s : StateView). Some (standing (number, s))) same
  where
    no-earlier : {at other_at number other : ℕ} → (at < other_at) ⊎ ((at ≡ other_at) × (number ≤ other)) → at ≤ other_at
    no-earlier (inl after) = omega (arith, after)
    no-earlier (inr same) = let as_far = same.0 in omega (arith, as_far)

-- the first is another: it stands further on, since its number is less
first-is-after : (number low high : ℕ) (state : StateView) (v : ℕ × StateView) (vs : Entries) → Rises low high (v ∷ vs) → (v.0 == number) ≡ false → state_at number (v ∷ vs) ≡ Some state
    → AllAfter state.at number (v ∷ vs) → state.at < v.1.at
first-is-after number low high state v vs rises apart at all =
    let above = state-is-above number v.0 high state vs rises.1 (found-later number state v vs apart at) in
    elim (all v.0 v.1 (state-first v vs)) [
      | inl after ↦ after
      | inr same ↦ (let no_less = same.1 in absurd (omega (arith, above, no_less)))
    ]

-- the view after which all these come is the one that is furthest behind
pub furthest-is : (number low high : ℕ) (state : StateView) (best : Option StandingView) (vs : Entries) → Rises low high vs → state_at number vs ≡ Some state
    → AllAfter state.at number vs → IfSome best (λ (b : StandingView). state.at < b.at) → furthest best (all_standing vs) ≡ Some (standing (number, state))
furthest-is number low high state best [] rises at all behind = absurd (cc)
furthest-is number low high state None (v ∷ vs) rises at all behind = elim (eqb_tells v.0 number) [
  | inl p ↦ furthest-here number low high state v vs rises p.0 p.1 at all
  | inr p ↦ furthest-is number v.0 high state (Some (standing v)) vs rises.1 (found-later number state v vs p.0 at) (all-later low high state.at number v vs rises all)
      (first-is-after number low high state v vs rises p.0 at all)
]
furthest-is number low high state (Some best) (v ∷ vs) rises at all behind = elim (eqb_tells v.0 number) [
  | inl p ↦ (let same = found-here number state v vs p.0 at in
      let less : v.1.at < best.at = subst (λ (s : StateView). s.at < best.at) (sym same) behind in
      ap (λ t. furthest (Some (cond t (standing v) best)) (all_standing vs)) (lt-ltb v.1.at best.at less)
      ∙ furthest-here number low high state v vs rises p.0 p.1 at all)
  | inr p ↦ furthest-is number v.0 high state (Some (cond (nat_lt v.1.at best.at) (standing v) best)) vs rises.1 (found-later number state v vs p.0 at) (all-later low high state.at number v vs rises all)
      (elim (nat_lt v.1.at best.at) as (λ (t : Bool). state.at < (cond t (standing v) best).at) [ true ↦ first-is-after number low high state v vs rises p.0 at all | false ↦ behind ])
]
