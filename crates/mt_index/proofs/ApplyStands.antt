-- Applies, pages and drops of views lead from a machine at a history to a machine at the next one.
use Rattle.std.proofs.Common.{ℕ, zero, suc, ◌≡◌, ◌≤◌, ◌<◌, ◌+◌, ◌==◌, ◌⊎◌, inl, inr, Bool, true, false, cond, List, [], ◌∷◌, length, take, map, Option, Some, None, refl, sym, ap, subst, ◌∙◌, arith}
use Rattle.std.specs.Prelude.{nat_lt, MatchBool, Contains}
use Rattle.std.proofs.Math.Nat.{min-le_left}
use Rattle.std.specs.Option.{option_map}
use Rattle.std.proofs.lemmas.Bool.{eq-eqb, ne_eqb}
use Rattle.std.proofs.lemmas.Bool.Decides.{eqb_tells, leb_tells}
use Rattle.mt_types.specs.Rows.{after}
use Rattle.mt_types.specs.Limits.{page_fault, refused_if}
use Rattle.mt_types.specs.Views.{afresh, column_sums, page_from}
use Rattle.mt_types.specs.declared.row.Row.{Row}
use Rattle.mt_types.specs.declared.view.Page.{Page}
use Rattle.mt_types.specs.declared.numbers.ViewNo.{ViewNo}
use Rattle.mt_types.specs.declared.event.Event.TheVariants.{Apply, ViewRead, ViewDrop}
use Rattle.mt_types.specs.declared.event.Outcome.{Outcome}
use Rattle.mt_types.specs.declared.event.Outcome.TheVariants.{Applied, Current, View, Dropped, Refused}
use Rattle.mt_types.specs.declared.refusal.Refusal.{Refusal}
use Rattle.mt_types.specs.declared.refusal.Refusal.TheVariants.{NoMemory, NoSuchView, Behind}
use Rattle.mt_promise.specs.History.{History, Happening, Moment, StandingView, happening, moment, view_of, meant_view, furthest, move_view, without_view}
use Rattle.mt_promise.specs.Legal.{IsOrLacksMemory, MayApply, MayRead, MayReadView, MayShow, MayDrop, page_of, held_from}
use Rattle.mt_commit.specs.Log.{newest, trimmed, kept_after}
use Rattle.mt_commit.specs.Laws.{times_held}
use Rattle.mt_commit.specs.Holders.{with_holder}
use Rattle.mt_commit.proofs.CountLemmas.{pinning_counts, unpinning_counts, counted_is_held}
use Rattle.mt_chart.specs.Tree.{Among, first, later}
use Rattle.mt_view.specs.State.{StateView, applied, page_of_state}
use Rattle.mt_view.specs.Views.{ViewsView, Rises, all_standing, standing, state_at, with_state, without}
use Rattle.mt_view.proofs.ViewLemmas.{rises-state, rises-without, as-many-with-state, fewer-without}
use Rattle.mt_view.proofs.StandingLemmas.{view-of-state, view-of-none, moved-on, dropped-there}
use Rattle.mt_index.specs.Viewing.{IsExact, ViewsStand}
use Rattle.mt_index.specs.Stands.{MachineView, Stands, Applies, TakesOn, ReadsPage, ReadsState, ReadsView, Drops, DropsView, meant_number, none_meant}
use Rattle.mt_index.proofs.ViewStands.{all_exact_still, exact_at, exact_with, exact_without, exact_next, view_holds, moved_holds, dropped_holds, least_held}
use Rattle.mt_index.proofs.LogStands.{slowest_is}
use Rattle.mt_index.proofs.StepStands.{held_before}
use Rattle.mt_index.proofs.LaterStands.{all_later, same_stands}
use Rattle.mt_index.proofs.ViewEvents.{changed_stands}

abbrev Views : Type 0
Views = List (ℕ × StateView)

-- ---- the view that is meant
-- a view among these is found by its number
among_state : (low high : ℕ) (vs : Views) (e : ℕ × StateView) → Rises low high vs → Among e vs → (state_at e.0 vs ≡ Some e.1) × (low < e.0)
among_state low high [] e rises i = elim i [ ]
among_state low high (v ∷ vs) e rises first = (ap (λ t. cond t (Some e.1) (state_at e.0 vs)) (eq-eqb e.0 e.0 refl), rises.0)
among_state low high (v ∷ vs) e rises (later i) =
    let (there, above) = among_state v.0 high vs e rises.1 i in
    let low_is = rises.0 in
    (ap (λ t. cond t (Some v.1) (state_at e.0 vs)) (ne_eqb v.0 e.0 (λ same. omega (arith, above, same))) ∙ there, omega (arith, above, low_is))

-- the one that is furthest behind is one of them
furthest_among : (best : Option (ℕ × StateView)) (vs : Views) (v : StandingView) → furthest (option_map standing best) (all_standing vs) ≡ Some v → (e : ℕ × StateView) × ((best ≡ Some e) ⊎ Among e vs) × (v ≡ standing e)
furthest_among None [] v is = absurd (let clash : ◌≡◌ {A = Option StandingView} None (Some v) = is in cc)
furthest_among (Some e) [] v is = (e, inl refl, let both : ◌≡◌ {A = Option StandingView} (Some (standing e)) (Some v) = is in cc)
furthest_among None (u ∷ vs) v is =
    let (e, where_, same) = furthest_among (Some u) vs v is in
    (e, elim where_ [ inl now ↦ inr (subst (λ (z : ℕ × StateView). Among z (u ∷ vs)) (let both : ◌≡◌ {A = Option (ℕ × StateView)} (Some u) (Some e) = now in cc) first) | inr i ↦ inr (later i) ], same)
furthest_among (Some b) (u ∷ vs) v is =
    elim (nat_lt u.1.at b.1.at) as (λ (t : Bool). furthest (Some (cond t (standing u) (standing b))) (all_standing vs) ≡ Some v → (e : ℕ × StateView) × ((Some b ≡ Some e) ⊎ Among e (u ∷ vs)) × (v ≡ standing e)) [
      | true ↦ λ so. (let (e, where_, same) = furthest_among (Some u) vs v so in
          (e, elim where_ [ inl now ↦ inr (subst (λ (z : ℕ × StateView). Among z (u ∷ vs)) (let both : ◌≡◌ {A = Option (ℕ × StateView)} (Some u) (Some e) = now in cc) first) | inr i ↦ inr (later i) ], same))
      | false ↦ λ so. (let (e, where_, same) = furthest_among (Some b) vs v so in
          (e, elim where_ [ inl now ↦ inl now | inr i ↦ inr (later i) ], same))
    ] is

state_cases : (o : Option StateView) → (o ≡ None) ⊎ ((z : StateView) × (o ≡ Some z))
state_cases None = inl refl
state_cases (Some z) = inr (z, refl)

-- so what is meant is one of them
meant_standing : (asked high : ℕ) (vs : Views) (v : StandingView) → Rises 0 high vs → meant_view asked (all_standing vs) ≡ Some v → (state : StateView) × (state_at v.number vs ≡ Some state) × (v ≡ standing (v.number, state))
meant_standing asked high vs v rises is = elim (eqb_tells asked 0) [
  | inl p ↦ (let (e, where_, same) = furthest_among None vs v (sym (ap (λ t. cond t (furthest None (all_standing vs)) (view_of asked (all_standing vs))) p.0) ∙ is) in
      elim where_ [
        | inl clash ↦ absurd (let never : ◌≡◌ {A = Option (ℕ × StateView)} None (Some e) = clash in cc)
        | inr i ↦ (let (found, above) = among_state 0 high vs e rises i in
            let number_is : e.0 ≡ v.number = sym (ap (λ (w : StandingView). w.number) same) in
            (e.1, sym (ap (λ (m : ℕ). state_at m vs) number_is) ∙ found, same ∙ ap (λ (m : ℕ). standing (m, e.1)) number_is))
      ])
  | inr p ↦ (let found : view_of asked (all_standing vs) ≡ Some v = sym (ap (λ t. cond t (furthest None (all_standing vs)) (view_of asked (all_standing vs))) p.0) ∙ is in
      elim (state_cases (state_at asked vs)) [
        | inl none ↦ absurd (let clash : ◌≡◌ {A = Option StandingView} None (Some v) = sym (view-of-none asked vs none) ∙ found in cc)
        | inr (other, at) ↦ (let both : ◌≡◌ {A = Option StandingView} (Some (standing (asked, other))) (Some v) = sym (view-of-state asked vs other at) ∙ found in
            let same : standing (asked, other) ≡ v = cc in
            let number_is : asked ≡ v.number = ap (λ (w : StandingView). w.number) same in
            (other, sym (ap (λ (m : ℕ). state_at m vs) number_is) ∙ at, sym same ∙ ap (λ (m : ℕ). standing (m, other)) number_is))
      ])
]

-- and is the view of its number
pub meant_state : (asked number high : ℕ) (vs : Views) → Rises 0 high vs → option_map (λ (v : StandingView). v.number) (meant_view asked (all_standing vs)) ≡ Some number → (state : StateView) × (state_at number vs ≡ Some state)
meant_state asked number high vs rises meant = by_view (meant_view asked (all_standing vs)) refl meant
  where
    by_view : (o : Option StandingView) → meant_view asked (all_standing vs) ≡ o → option_map (λ (v : StandingView). v.number) o ≡ Some number → (state : StateView) × (state_at number vs ≡ Some state)
    by_view None is none = absurd (let clash : ◌≡◌ {A = Option ℕ} None (Some number) = none in cc)
    by_view (Some v) is some =
        let (state, there, same) = meant_standing asked high vs v rises is in
        let number_is : v.number ≡ number = (let both : ◌≡◌ {A = Option ℕ} (Some v.number) (Some number) = some in cc) in
        (state, sym (ap (λ (m : ℕ). state_at m vs) number_is) ∙ there)

meant_is : (asked number high : ℕ) (vs : Views) (state : StateView) → Rises 0 high vs → option_map (λ (v : StandingView). v.number) (meant_view asked (all_standing vs)) ≡ Some number → state_at number vs ≡ Some state → meant_view asked (all_standing vs) ≡ Some (standing (number, state))
meant_is asked number high vs state rises meant there = by_view (meant_view asked (all_standing vs)) refl meant
  where
    by_view : (o : Option StandingView) → meant_view asked (all_standing vs) ≡ o → option_map (λ (v : StandingView). v.number) o ≡ Some number → o ≡ Some (standing (number, state))
    by_view None is none = absurd (let clash : ◌≡◌ {A = Option ℕ} None (Some number) = none in cc)
    by_view (Some v) is some =
        let (other, found, same) = meant_standing asked high vs v rises is in
        let number_is : v.number ≡ number = (let both : ◌≡◌ {A = Option ℕ} (Some v.number) (Some number) = some in cc) in
        let states : ◌≡◌ {A = Option StateView} (Some other) (Some state) = sym found ∙ ap (λ (m : ℕ). state_at m vs) number_is ∙ there in
        let state_is : other ≡ state = cc in
        ap Some (same ∙ ap (λ (m : ℕ). standing (m, other)) number_is ∙ ap (λ (z : StateView). standing (number, z)) state_is)

-- ---- what an apply may answer
apply_some : (m : Moment) (asked : ℕ) (o : Option StandingView) (v : StandingView) (outcome : Outcome) → o ≡ Some v → MatchBool (nat_lt v.at (length m.commits)) (IsOrLacksMemory (Applied (v.at + 1)) outcome) (outcome ≡ Current) → MayApply m asked o outcome
apply_some m zero o v outcome is may = subst (λ (z : Option StandingView). MayApply m zero z outcome) (sym is) may
apply_some m (suc n) o v outcome is may = subst (λ (z : Option StandingView). MayApply m (suc n) z outcome) (sym is) may

apply_none : (m : Moment) (asked : ℕ) (o : Option StandingView) → o ≡ None → MayApply m asked o (none_meant asked)
apply_none m zero o is = subst (λ (z : Option StandingView). MayApply m zero z (none_meant zero)) (sym is) refl
apply_none m (suc n) o is = subst (λ (z : Option StandingView). MayApply m (suc n) z (none_meant (suc n))) (sym is) (ap (λ (t : Bool). cond t Current (Refused NoSuchView)) (ne_eqb (suc n) 0 (λ e. omega (arith, e))))

none_is : (o : Option StandingView) → option_map (λ (v : StandingView). v.number) o ≡ None → o ≡ None
none_is None is = refl
none_is (Some v) is = absurd (let clash : ◌≡◌ {A = Option ℕ} (Some v.number) None = is in cc)

pub if_behind : (a b : ℕ) (P Q : Type 0) → a < b → P → MatchBool (nat_lt a b) P Q
if_behind a b P Q less p = elim (leb_tells (suc a) b) [ inl t ↦ subst (λ (t : Bool). MatchBool t P Q) (sym t.0) p | inr t ↦ absurd (let no = t.1 in omega (arith, less, no)) ]

pub if_current : (a b : ℕ) (P Q : Type 0) → b ≤ a → Q → MatchBool (nat_lt a b) P Q
if_current a b P Q up q = elim (leb_tells (suc a) b) [ inl t ↦ absurd (let no = t.1 in omega (arith, up, no)) | inr t ↦ subst (λ (t : Bool). MatchBool t P Q) (sym t.0) q ]

module _ (s : MachineView) (h : History) (st : Stands s h) where
  -- the views of the history
  meant_there : (asked : ℕ) (o : Option StandingView) → meant_view asked (all_standing s.views.views) ≡ o → meant_view asked (moment h).views ≡ o
  meant_there asked o is = ap (meant_view asked) st.views.standing ∙ is

  -- a view's holder
  pub view_reaches : (number : ℕ) (state : StateView) → state_at number s.views.views ≡ Some state → (s.log.held_after ≤ state.at) × (0 < times_held state.at s.log.holders)
  view_reaches number state there =
      let here = view_holds number state s.views.views there in
      let all = held_before s h st state.at in
      let same = ap (λ (vs : List StandingView). times_held state.at (map (λ (v : StandingView). v.at) vs)) st.views.standing in
      let held : 0 < times_held state.at s.log.holders = omega (arith, here, all, same) in
      let low = least_held (newest s.log) state.at s.log.holders held in
      let is = slowest_is s.log (moment h) st.commits st.held in
      let trim = st.trimmed in
      let less = min-le_left (held_from (moment h)) (kept_after s.log (length (moment h).commits)) in
      (omega (arith, low, is, trim, less), held)

  pub view_held : (number : ℕ) (state : StateView) → state_at number s.views.views ≡ Some state → Contains s.log.holders state.at
  view_held number state there = counted_is_held state.at s.log.holders (view_reaches number state there).1

  -- an apply that changes nothing
  apply_current : (asked : ViewNo) → MayApply (moment h) asked.0 (meant_view asked.0 (moment h).views) Current → Stands s (happening (Apply asked) Current 0 ∷ h)
  apply_current asked may = same_stands s h (happening (Apply asked) Current 0) st may refl refl refl refl refl refl

  apply_refused : (asked : ViewNo) (refusal : Refusal) → MayApply (moment h) asked.0 (meant_view asked.0 (moment h).views) (Refused refusal) → Stands s (happening (Apply asked) (Refused refusal) 0 ∷ h)
  apply_refused asked refusal may = same_stands s h (happening (Apply asked) (Refused refusal) 0) st may refl refl refl refl refl refl

  no_view : (asked : ViewNo) → meant_number s asked.0 ≡ None → Stands s (happening (Apply asked) (none_meant asked.0) 0 ∷ h)
  no_view asked none = by_test (asked.0 == 0) refl
    where
      may : MayApply (moment h) asked.0 (meant_view asked.0 (moment h).views) (none_meant asked.0)
      may = apply_none (moment h) asked.0 (meant_view asked.0 (moment h).views) (meant_there asked.0 None (none_is (meant_view asked.0 (all_standing s.views.views)) none))

      by_test : (t : Bool) → asked.0 == 0 ≡ t → Stands s (happening (Apply asked) (cond t Current (Refused NoSuchView)) 0 ∷ h)
      by_test true is = apply_current asked (subst (λ (t : Bool). MayApply (moment h) asked.0 (meant_view asked.0 (moment h).views) (cond t Current (Refused NoSuchView))) is may)
      by_test false is = apply_refused asked NoSuchView (subst (λ (t : Bool). MayApply (moment h) asked.0 (meant_view asked.0 (moment h).views) (cond t Current (Refused NoSuchView))) is may)

  module _ (asked : ViewNo) (number : ℕ) (state : StateView) (meant : meant_number s asked.0 ≡ Some number) (there : state_at number s.views.views ≡ Some state) where
    is_meant : meant_view asked.0 (moment h).views ≡ Some (standing (number, state))
    is_meant = meant_there asked.0 (Some (standing (number, state))) (meant_is asked.0 number s.views.built s.views.views state st.views.rises meant there)

    may_apply : (outcome : Outcome) → MatchBool (nat_lt state.at (length (moment h).commits)) (IsOrLacksMemory (Applied (state.at + 1)) outcome) (outcome ≡ Current) → MayApply (moment h) asked.0 (meant_view asked.0 (moment h).views) outcome
    may_apply outcome m = apply_some (moment h) asked.0 (meant_view asked.0 (moment h).views) (standing (number, state)) outcome is_meant m

    taken_on : (t : MachineView) (outcome : Outcome) → TakesOn s number state outcome t → Stands t (happening (Apply asked) outcome 0 ∷ h)
    taken_on t outcome o =
        subst (λ (u : MachineView). Stands u (happening (Apply asked) outcome 0 ∷ h)) (sym o.is_next)
        (subst (λ (z : Outcome). Stands next (happening (Apply asked) z 0 ∷ h)) (sym o.is_outcome)
        (changed_stands s h st x may refl refl refl s.calls.calls o.holders then_views (all_later s h x st refl) st.apart st.owned st.reserved views o.sound
        (λ number'.
        let more = pinning_counts (state.at + 1) number' s.log.holders in
        let less = unpinning_counts state.at number' (with_holder (state.at + 1) s.log.holders) in
        let before = held_before s h st number' in
        let are = ap (times_held number') o.are in
        let now = ap (λ (vs : List StandingView). times_held number' (map (λ (v : StandingView). v.at) vs)) views_are in
        let old = ap (λ (vs : List StandingView). times_held number' (map (λ (v : StandingView). v.at) vs)) st.views.standing in
        let moved = moved_holds number state (applied o.delta state) s.views.views 0 s.views.built st.views.rises there number' in
        let at_is : ◌≡◌ {A = ℕ} (cond ((applied o.delta state).at == number') 1 0) (cond (state.at + 1 == number') 1 0) = ap (λ (m : ℕ). cond (m == number') 1 0) further in
        omega (arith, more, less, before, are, now, old, moved, at_is)) st.in_order))
      where
        then_views : ViewsView
        then_views = record s.views { views = with_state number (applied o.delta state) s.views.views }

        next : MachineView
        next = record { columns = s.columns; epoch = s.epoch; tree = s.tree; log = trimmed (record s.log { holders = o.holders }); calls = s.calls; views = then_views }

        x : Happening
        x = happening (Apply asked) (Applied (state.at + 1)) 0

        is_next : IsExact s.columns (moment h) (number, applied o.delta state) × ((applied o.delta state).at ≡ state.at + 1)
        is_next = exact_next s h st number state o.delta (exact_at s.columns (moment h) number state s.views.views st.views.exact there) (view_reaches number state there).0 o.behind o.is_delta

        further : (applied o.delta state).at ≡ state.at + 1
        further = is_next.1

        views_are : (moment (x ∷ h)).views ≡ all_standing (with_state number (applied o.delta state) s.views.views)
        views_are =
            ap (λ (o : Option StandingView). move_view o (moment h).views) is_meant
            ∙ ap (move_view (Some (standing (number, state)))) st.views.standing
            ∙ moved-on number 0 s.views.built s.views.views state (applied o.delta state) st.views.rises there refl further

        views : ViewsStand s.columns (moment (x ∷ h)) then_views
        views =
            let few = st.views.few in
            let as_many = as-many-with-state number (applied o.delta state) s.views.views in
            record {
              built = st.views.built;
              standing = views_are;
              exact = all_exact_still s.columns (moment h) (moment (x ∷ h)) (inl refl) (with_state number (applied o.delta state) s.views.views) (exact_with s.columns (moment h) number (applied o.delta state) s.views.views st.views.exact is_next.0);
              rises = rises-state number 0 s.views.built (applied o.delta state) s.views.views st.views.rises;
              building = st.views.building;
              few = omega (arith, few, as_many);
            }

        may : MayApply (moment h) asked.0 (meant_view asked.0 (moment h).views) (Applied (state.at + 1))
        may = let all = st.commits in let behind = o.behind in may_apply (Applied (state.at + 1)) (if_behind state.at (length (moment h).commits) _ _ (omega (arith, all, behind)) (inl refl))

  -- an apply
  pub applies-stand : (t : MachineView) (asked : ViewNo) (outcome : Outcome) → Applies s asked.0 outcome t → Stands t (happening (Apply asked) outcome 0 ∷ h)
  applies-stand t asked outcome (inl (none, is, same)) =
      subst (λ (u : MachineView). Stands u (happening (Apply asked) outcome 0 ∷ h)) (sym same) (subst (λ (z : Outcome). Stands s (happening (Apply asked) z 0 ∷ h)) (sym is) (no_view asked none))
  applies-stand t asked outcome (inr a) = elim a.comes [
    | inl (up, is, same) ↦ subst (λ (u : MachineView). Stands u (happening (Apply asked) outcome 0 ∷ h)) (sym same) (subst (λ (z : Outcome). Stands s (happening (Apply asked) z 0 ∷ h)) (sym is)
        (apply_current asked (may_apply asked a.number a.state a.meant a.there Current (let all = st.commits in if_current a.state.at (length (moment h).commits) _ _ (omega (arith, all, up)) refl))))
    | inr (inl (behind, is, same)) ↦ subst (λ (u : MachineView). Stands u (happening (Apply asked) outcome 0 ∷ h)) (sym same) (subst (λ (z : Outcome). Stands s (happening (Apply asked) z 0 ∷ h)) (sym is)
        (apply_refused asked NoMemory (may_apply asked a.number a.state a.meant a.there (Refused NoMemory) (let all = st.commits in if_behind a.state.at (length (moment h).commits) _ _ (omega (arith, all, behind)) (inr refl)))))
    | inr (inr takes) ↦ taken_on asked a.number a.state a.meant a.there t outcome takes
  ]

  -- ---- pages
  shows : (number : ℕ) (state : StateView) (start : List ℕ) (limit : ℕ) → IsExact s.columns (moment h) (number, state) → page_of_state state start limit ≡ page_of s.columns (moment h) (standing (number, state)) start limit
  shows number state start limit is =
      ap (λ (pairs : List (List ℕ × Row)). page pairs state.columns) is.state.afresh ∙ ap (page (afresh state.spec (after s.columns (take state.at (moment h).commits)))) is.state.columns
    where
      page : List (List ℕ × Row) → ℕ → Page
      page pairs columns = record { at = state.at; count = length pairs; sums = column_sums 0 columns pairs; rows = page_from start limit pairs }

  may_read : (view floor : ℕ) (start : List ℕ) (limit : ℕ) (outcome : Outcome) (o : Option StateView) → state_at view s.views.views ≡ o → ReadsState o floor start limit outcome → MayRead s.columns (moment h) (view_of view (moment h).views) floor start limit outcome
  may_read view floor start limit outcome None none is =
      subst (λ (z : Option StandingView). MayRead s.columns (moment h) z floor start limit outcome) (sym (ap (view_of view) st.views.standing ∙ view-of-none view s.views.views none)) is
  may_read view floor start limit outcome (Some state) there is =
      subst (λ (z : Option StandingView). MayRead s.columns (moment h) z floor start limit outcome) (sym (ap (view_of view) st.views.standing ∙ view-of-state view s.views.views state there))
      (elim is [
        | inl (behind, refused) ↦ elim (leb_tells (suc state.at) floor) [
          | inl t ↦ subst (λ (b : Bool). MayShow s.columns (moment h) (standing (view, state)) start limit (refused_if b (Behind state.at)) outcome) (sym t.0) refused
          | inr t ↦ absurd (let no = t.1 in omega (arith, behind, no))
        ]
        | inr (up, shown) ↦ elim (leb_tells (suc state.at) floor) [
          | inl t ↦ absurd (let no = t.1 in omega (arith, up, no))
          | inr t ↦ subst (λ (b : Bool). MayShow s.columns (moment h) (standing (view, state)) start limit (refused_if b (Behind state.at)) outcome) (sym t.0)
              (elim shown [
                | inl page ↦ inl (page ∙ ap View (shows view state start limit (exact_at s.columns (moment h) view state s.views.views st.views.exact there)))
                | inr memory ↦ inr memory
              ])
        ]
      ])

  pub reads-stand : (view : ViewNo) (floor : ℕ) (start : List ℕ) (limit : ℕ) (outcome : Outcome) → ReadsView s view.0 floor start limit outcome → Stands s (happening (ViewRead view floor start limit) outcome 0 ∷ h)
  reads-stand view floor start limit outcome reads =
      same_stands s h (happening (ViewRead view floor start limit) outcome 0) st (by_fault (page_fault start limit) reads) refl refl refl refl refl refl
    where
      by_fault : (fault : Option Refusal) → ReadsPage fault (state_at view.0 s.views.views) floor start limit outcome → MayReadView s.columns (moment h) fault view.0 floor start limit outcome
      by_fault (Some refusal) is = is
      by_fault None is = may_read view.0 floor start limit outcome (state_at view.0 s.views.views) refl is

  -- ---- drops
  dropped : (t : MachineView) (view : ViewNo) (outcome : Outcome) → DropsView s view.0 outcome t → Stands t (happening (ViewDrop view) outcome 0 ∷ h)
  dropped t view outcome o =
      subst (λ (u : MachineView). Stands u (happening (ViewDrop view) outcome 0 ∷ h)) (sym o.is_next)
      (subst (λ (z : Outcome). Stands next (happening (ViewDrop view) z 0 ∷ h)) (sym o.is_outcome)
      (changed_stands s h st x may refl refl refl s.calls.calls o.holders then_views (all_later s h x st refl) st.apart st.owned st.reserved views o.sound
      (λ number.
      let less = unpinning_counts o.state.at number s.log.holders in
      let before = held_before s h st number in
      let are = ap (times_held number) o.are in
      let now = ap (λ (vs : List StandingView). times_held number (map (λ (v : StandingView). v.at) vs)) views_are in
      let old = ap (λ (vs : List StandingView). times_held number (map (λ (v : StandingView). v.at) vs)) st.views.standing in
      let left = dropped_holds view.0 o.state s.views.views 0 s.views.built st.views.rises o.there number in
      omega (arith, less, before, are, now, old, left)) st.in_order))
    where
      then_views : ViewsView
      then_views = record s.views { views = without view.0 s.views.views }

      next : MachineView
      next = record { columns = s.columns; epoch = s.epoch; tree = s.tree; log = trimmed (record s.log { holders = o.holders }); calls = s.calls; views = then_views }

      x : Happening
      x = happening (ViewDrop view) Dropped 0

      views_are : (moment (x ∷ h)).views ≡ all_standing (without view.0 s.views.views)
      views_are = ap (without_view view.0) st.views.standing ∙ dropped-there view.0 s.views.views

      views : ViewsStand s.columns (moment (x ∷ h)) then_views
      views =
          let few = st.views.few in
          let fewer = fewer-without view.0 s.views.views in
          record {
            built = st.views.built;
            standing = views_are;
            exact = all_exact_still s.columns (moment h) (moment (x ∷ h)) (inl refl) (without view.0 s.views.views) (exact_without s.columns (moment h) view.0 s.views.views st.views.exact);
            rises = rises-without view.0 0 s.views.built s.views.views st.views.rises;
            building = st.views.building;
            few = omega (arith, few, fewer);
          }

      may : MayDrop (view_of view.0 (moment h).views) Dropped
      may = subst (λ (z : Option StandingView). MayDrop z Dropped) (sym (ap (view_of view.0) st.views.standing ∙ view-of-state view.0 s.views.views o.state o.there)) refl

  pub drops-stand : (t : MachineView) (view : ViewNo) (outcome : Outcome) → Drops s view.0 outcome t → Stands t (happening (ViewDrop view) outcome 0 ∷ h)
  drops-stand t view outcome (inl (none, is, same)) =
      subst (λ (u : MachineView). Stands u (happening (ViewDrop view) outcome 0 ∷ h)) (sym same) (subst (λ (z : Outcome). Stands s (happening (ViewDrop view) z 0 ∷ h)) (sym is)
      (same_stands s h (happening (ViewDrop view) (Refused NoSuchView) 0) st (subst (λ (z : Option StandingView). MayDrop z (Refused NoSuchView)) (sym (ap (view_of view.0) st.views.standing ∙ view-of-none view.0 s.views.views none)) refl) refl refl refl refl refl refl))
  drops-stand t view outcome (inr o) = dropped t view outcome o
