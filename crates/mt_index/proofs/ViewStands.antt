-- The views of a machine at a history, after each change: a view is opened, advanced or dropped, or a call commits.
use Rattle.std.proofs.Common.{ℕ, ◌≡◌, ◌≤◌, ◌<◌, ◌+◌, ◌==◌, Bool, true, false, not, cond, List, [], ◌∷◌, ◌++◌, take, map, Some, refl, sym, ap, subst, ◌∙◌, inl, inr, arith}
use Rattle.std.specs.Prelude.{count_by, min}
use Rattle.std.proofs.Math.Nat.{min-le_right}
use Rattle.std.proofs.lemmas.Bool.{eq-eqb}
use Rattle.std.proofs.lemmas.Bool.Decides.{eqb_tells}
use Rattle.std.proofs.lemmas.List.Sums.{sum_by-cons}
use Rattle.mt_types.specs.Numbers.{least}
use Rattle.mt_types.specs.Rows.{Rows, after}
use Rattle.mt_types.specs.declared.row.Delta.{Delta}
use Rattle.mt_types.specs.declared.row.Change.{Change}
use Rattle.mt_promise.specs.History.{History, Moment, OpenCall, StandingView, moment}
use Rattle.mt_promise.specs.Legal.{is_build}
use Rattle.mt_commit.specs.Log.{newest, delta_of}
use Rattle.mt_commit.specs.Laws.{times_held}
use Rattle.mt_commit.specs.Deltas.{redo}
use Rattle.mt_commit.proofs.LogLemmas.{least_within}
use Rattle.mt_view.specs.State.{StateView, IsAfresh, applied}
use Rattle.mt_view.proofs.AfreshLemmas.{applied_is_afresh}
use Rattle.mt_view.proofs.ViewLemmas.{state-above, without-above}
use Rattle.mt_view.specs.Views.{Rises, all_standing, state_at, with_state, without}
use Rattle.mt_works.specs.Works.{request_of}
use Rattle.mt_index.specs.declared.calls.Call.{Call}
use Rattle.mt_index.specs.Paired.{Paired}
use Rattle.mt_index.specs.Calls.{total}
use Rattle.mt_index.specs.Viewing.{IsExact, AreExact}
use Rattle.mt_index.specs.Stands.{MachineView, Stands}
use Rattle.mt_index.proofs.NumberLemmas.{Entries}
use Rattle.mt_index.proofs.PairedLemmas.{Relation}
use Rattle.mt_index.proofs.PastLemmas.{Grows}
use Rattle.mt_index.proofs.LawLemmas.{each_commit_is_logged}
use Rattle.mt_index.proofs.Reading.{taken_still, more_commits, change_at}

abbrev Views : Type 0
Views = List (ℕ × StateView)

-- ---- commits of others
module _ (C : ℕ) (m later : Moment) (grows : Grows C m later) where
  exact_still : (view : ℕ × StateView) → IsExact C m view → IsExact C later view
  exact_still view is = record {
    reached = let more = more_commits C m later grows in let r = is.reached in omega (arith, more, r);
    state = record {
      spec = refl;
      columns = is.state.columns;
      at = refl;
      afresh = subst (λ (cs : List Change). IsAfresh view.1 (after C cs)) (sym (taken_still C m later grows view.1.at is.reached)) is.state.afresh;
    };
  }

  pub all_exact_still : (views : Views) → AreExact C m views → AreExact C later views
  all_exact_still [] exact = tt
  all_exact_still (v ∷ vs) exact = (exact_still v exact.0, all_exact_still vs exact.1)

-- ---- which views are exact
pub exact_at : (C : ℕ) (m : Moment) (number : ℕ) (state : StateView) (views : Views) → AreExact C m views → state_at number views ≡ Some state → IsExact C m (number, state)
exact_at C m number state [] exact at = absurd (cc)
exact_at C m number state (v ∷ vs) exact at = elim (eqb_tells v.0 number) [
  | inl p ↦ (let both : Some v.1 ≡ Some state = sym (ap (λ t. cond t (Some v.1) (state_at number vs)) p.0) ∙ at in
      let one : v.1 ≡ state = cc in
      subst (λ (s : StateView). IsExact C m (number, s)) one (subst (λ (n : ℕ). IsExact C m (n, v.1)) p.1 exact.0))
  | inr p ↦ exact_at C m number state vs exact.1 (sym (ap (λ t. cond t (Some v.1) (state_at number vs)) p.0) ∙ at)
]

renamed : (C : ℕ) (m : Moment) (one other : ℕ) (state : StateView) → IsExact C m (one, state) → IsExact C m (other, state)
renamed C m one other state is = record { reached = is.reached; state = record { spec = refl; columns = is.state.columns; at = refl; afresh = is.state.afresh } }

pub exact_with : (C : ℕ) (m : Moment) (number : ℕ) (new : StateView) (views : Views) → AreExact C m views → IsExact C m (number, new) → AreExact C m (with_state number new views)
exact_with C m number new [] exact is = tt
exact_with C m number new (v ∷ vs) exact is =
    elim (v.0 == number) as (λ (t : Bool). AreExact C m (cond t (v.0, new) v ∷ with_state number new vs)) [
      | true ↦ (renamed C m number v.0 new is, exact_with C m number new vs exact.1 is)
      | false ↦ (exact.0, exact_with C m number new vs exact.1 is)
    ]

pub exact_without : (C : ℕ) (m : Moment) (number : ℕ) (views : Views) → AreExact C m views → AreExact C m (without number views)
exact_without C m number [] exact = tt
exact_without C m number (v ∷ vs) exact =
    elim (v.0 == number) as (λ (t : Bool). AreExact C m (cond (not t) (v ∷ without number vs) (without number vs))) [
      | true ↦ exact_without C m number vs exact.1
      | false ↦ (exact.0, exact_without C m number vs exact.1)
    ]

pub exact_append : (C : ℕ) (m : Moment) (views : Views) (view : ℕ × StateView) → AreExact C m views → IsExact C m view → AreExact C m (views ++ view ∷ [])
exact_append C m [] view exact is = (is, tt)
exact_append C m (v ∷ vs) view exact is = (exact.0, exact_append C m vs view exact.1 is)

-- a view that takes the next delta of the log is exact one commit further
pub exact_next : (s : MachineView) (h : History) (st : Stands s h) (number : ℕ) (state : StateView) (delta : Delta) → IsExact s.columns (moment h) (number, state) → s.log.held_after ≤ state.at → state.at < newest s.log → delta_of s.log (state.at + 1) ≡ Some delta
    → IsExact s.columns (moment h) (number, applied delta state) × ((applied delta state).at ≡ state.at + 1)
exact_next s h st number state delta is reaches behind next =
    let all = st.commits in
    let (change, there) = change_at (moment h).commits state.at (omega (arith, all, behind)) in
    let (made, logged, tells) = each_commit_is_logged s h state.at change st reaches there in
    let same : made ≡ delta = (let both : Some made ≡ Some delta = sym logged ∙ next in cc) in
    let numbered : delta.number ≡ state.at + 1 = sym (ap (λ (d : Delta). d.number) same) ∙ tells.number in (
      record {
        reached = omega (arith, all, behind, numbered);
        state = record {
          spec = refl;
          columns = is.state.columns;
          at = refl;
          afresh = subst (λ (n : ℕ). IsAfresh (applied delta state) (after s.columns (take n (moment h).commits))) (sym numbered)
              (subst (λ (rs : Rows). IsAfresh (applied delta state) rs) (ap (λ (d : Delta). redo d (after s.columns (take state.at (moment h).commits))) (sym same) ∙ sym tells.made)
              (applied_is_afresh state delta (after s.columns (take state.at (moment h).commits)) is.state.afresh));
        };
      },
      numbered,
    )

-- ---- who holds the log
abbrev pub places_of : Views → List ℕ
places_of views = map (λ (v : StandingView). v.at) (all_standing views)

-- each view holds it from the number of commits at which it is
pub view_holds : (number : ℕ) (state : StateView) (views : Views) → state_at number views ≡ Some state → 0 < times_held state.at (places_of views)
view_holds number state [] at = absurd (cc)
view_holds number state (v ∷ vs) at =
    let first = sum_by-cons (λ (n : ℕ). cond (n == state.at) 1 0) v.1.at (places_of vs) in
    elim (eqb_tells v.0 number) [
      | inl p ↦ (let both : Some v.1 ≡ Some state = sym (ap (λ t. cond t (Some v.1) (state_at number vs)) p.0) ∙ at in
          let one : v.1 ≡ state = cc in
          let same : ◌≡◌ {A = ℕ} (cond (v.1.at == state.at) 1 0) 1 = ap (λ b. cond b 1 0) (eq-eqb v.1.at state.at (ap (λ (s : StateView). s.at) one)) in
          omega (arith, first, same))
      | inr p ↦ (let rest = view_holds number state vs (sym (ap (λ t. cond t (Some v.1) (state_at number vs)) p.0) ∙ at) in omega (arith, first, rest))
    ]

-- with the view moved on, it is held once less from where it stood, and once more from where it stands
pub moved_holds : (number : ℕ) (old new : StateView) (views : Views) (low high : ℕ) → Rises low high views → state_at number views ≡ Some old → (n : ℕ)
    → times_held n (places_of (with_state number new views)) + cond (old.at == n) 1 0 ≡ times_held n (places_of views) + cond (new.at == n) 1 0
moved_holds number old new [] low high rises at n = absurd (cc)
moved_holds number old new (v ∷ vs) low high rises at n =
    let first = sum_by-cons (λ (k : ℕ). cond (k == n) 1 0) v.1.at (places_of vs) in
    let here : Bool → List ℕ = λ t. places_of (cond t (v.0, new) v ∷ with_state number new vs) in
    elim (eqb_tells v.0 number) [
      | inl p ↦ (let both : Some v.1 ≡ Some old = sym (ap (λ t. cond t (Some v.1) (state_at number vs)) p.0) ∙ at in
          let one : v.1 ≡ old = cc in
          let was : ◌≡◌ {A = ℕ} (cond (v.1.at == n) 1 0) (cond (old.at == n) 1 0) = ap (λ (s : StateView). cond (s.at == n) 1 0) one in
          let same = p.1 in
          let kept = ap (λ (l : Views). times_held n (places_of l)) (state-above number v.0 high new vs (omega (arith, same)) rises.1) in
          let now = ap (times_held n) (ap here p.0) ∙ sum_by-cons (λ (k : ℕ). cond (k == n) 1 0) new.at (places_of (with_state number new vs)) in
          omega (arith, first, was, kept, now))
      | inr p ↦ (let now = ap (times_held n) (ap here p.0) ∙ sum_by-cons (λ (k : ℕ). cond (k == n) 1 0) v.1.at (places_of (with_state number new vs)) in
          let rest = moved_holds number old new vs v.0 high rises.1 (sym (ap (λ t. cond t (Some v.1) (state_at number vs)) p.0) ∙ at) n in
          omega (arith, first, now, rest))
    ]

-- and without the view once less from where it stood
pub dropped_holds : (number : ℕ) (old : StateView) (views : Views) (low high : ℕ) → Rises low high views → state_at number views ≡ Some old → (n : ℕ)
    → times_held n (places_of (without number views)) + cond (old.at == n) 1 0 ≡ times_held n (places_of views)
dropped_holds number old [] low high rises at n = absurd (cc)
dropped_holds number old (v ∷ vs) low high rises at n =
    let first = sum_by-cons (λ (k : ℕ). cond (k == n) 1 0) v.1.at (places_of vs) in
    let here : Bool → List ℕ = λ t. places_of (cond (not t) (v ∷ without number vs) (without number vs)) in
    elim (eqb_tells v.0 number) [
      | inl p ↦ (let both : Some v.1 ≡ Some old = sym (ap (λ t. cond t (Some v.1) (state_at number vs)) p.0) ∙ at in
          let one : v.1 ≡ old = cc in
          let was : ◌≡◌ {A = ℕ} (cond (v.1.at == n) 1 0) (cond (old.at == n) 1 0) = ap (λ (s : StateView). cond (s.at == n) 1 0) one in
          let same = p.1 in
          let kept = ap (λ (l : Views). times_held n (places_of l)) (without-above number v.0 high vs (omega (arith, same)) rises.1) in
          let now = ap (times_held n) (ap here p.0) in
          omega (arith, first, was, kept, now))
      | inr p ↦ (let now = ap (times_held n) (ap here p.0) ∙ sum_by-cons (λ (k : ℕ). cond (k == n) 1 0) v.1.at (places_of (without number vs)) in
          let rest = dropped_holds number old vs v.0 high rises.1 (sym (ap (λ t. cond t (Some v.1) (state_at number vs)) p.0) ∙ at) n in
          omega (arith, first, now, rest))
    ]

-- with one more view, once more from where it stands
pub opened_holds : (views : Views) (new : ℕ × StateView) (n : ℕ) → times_held n (places_of (views ++ new ∷ [])) ≡ times_held n (places_of views) + cond (new.1.at == n) 1 0
opened_holds [] new n = let one = sum_by-cons (λ (k : ℕ). cond (k == n) 1 0) new.1.at [] in omega (arith, one)
opened_holds (v ∷ vs) new n =
    let first = sum_by-cons (λ (k : ℕ). cond (k == n) 1 0) v.1.at (places_of vs) in
    let now = sum_by-cons (λ (k : ℕ). cond (k == n) 1 0) v.1.at (places_of (vs ++ new ∷ [])) in
    let rest = opened_holds vs new n in omega (arith, first, now, rest)

-- a number that is held is not below the least
pub least_held : (best number : ℕ) (holders : List ℕ) → 0 < times_held number holders → least best holders ≤ number
least_held best number [] held = absurd (omega (arith, held))
least_held best number (x ∷ xs) held =
    let first = sum_by-cons (λ (k : ℕ). cond (k == number) 1 0) x xs in
    elim (eqb_tells x number) [
      | inl p ↦ (let low = least_within (min best x) xs in let less = min-le_right best x in let same = p.1 in omega (arith, low, less, same))
      | inr p ↦ (let none : ◌≡◌ {A = ℕ} (cond (x == number) 1 0) 0 = ap (λ b. cond b 1 0) p.0 in least_held (min best x) number xs (omega (arith, first, none, held)))
    ]

-- ---- the places of builds
-- 1 for a build, else 0
abbrev pub builds_of : Call → ℕ
builds_of call = cond (is_build (request_of call.work)) 1 0

module _ (R : Relation) (request : (k : ℕ × Call) (c : OpenCall) → R k c → c.request ≡ request_of k.1.work) where
  pub paired-builds : (low high : ℕ) (ks : Entries) (cs : List OpenCall) → Paired R low high ks cs → count_by (λ (call : OpenCall). is_build call.request) cs ≡ total builds_of ks
  paired-builds low high [] [] s = refl
  paired-builds low high (k ∷ ks) (c ∷ cs) s =
      let rest = paired-builds c.number high ks cs s.3 in
      let one = sum_by-cons (λ (call : OpenCall). cond (is_build call.request) 1 0) c cs in
      let same : ◌≡◌ {A = ℕ} (cond (is_build c.request) 1 0) (builds_of k.1) = ap (λ q. cond (is_build q) 1 0) (request k c s.2) in
      omega (arith, rest, one, same)
  paired-builds low high [] (c ∷ cs) s = absurd s
  paired-builds low high (k ∷ ks) [] s = absurd s
