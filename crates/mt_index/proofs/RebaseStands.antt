-- The machine at another history that has its rows.
use Rattle.std.proofs.Common.{◌≡◌, ℕ, ◌+◌, ◌-◌, ◌<◌, ◌≤◌, Bool, true, false, cond, List, [], ◌∷◌, ◌++◌, length, drop, min, max, Option, Some, None, ◌∙◌, ap, sym, subst, refl, inl, inr, arith}
use Rattle.std.specs.Prelude.{map, filter, count_by, ◌==◌, ◌↔◌}
use Rattle.std.specs.FinMap.{get, len}
use Rattle.std.proofs.Math.Seq.{drop-length}
use Rattle.std.proofs.lemmas.Bool.Decides.{eqb_tells}
use Rattle.std.proofs.lemmas.List.Sums.{sum_by-cons}
use Rattle.mt_types.specs.Rows.{Rows}
use Rattle.mt_types.specs.declared.row.Row.{Row}
use Rattle.mt_types.specs.declared.row.Delta.{Delta}
use Rattle.mt_promise.specs.History.{History, Moment, OpenCall, StandingView, moment, rows}
use Rattle.mt_promise.specs.Legal.{held_from, is_build}
use Rattle.mt_slice.specs.Place.{AreBytes}
use Rattle.mt_commit.specs.Laws.{times_held}
use Rattle.mt_commit.specs.Logged.{deltas_of}
use Rattle.mt_commit.specs.Log.{kept_after}
use Rattle.mt_commit.proofs.DeltaLemmas.{deltas_of-length}
use Rattle.mt_tree.specs.Seen.{HasRow}
use Rattle.mt_view.specs.Views.{all_standing}
use Rattle.mt_view.specs.State.{StateView}
use Rattle.mt_index.specs.declared.calls.Call.{Call}
use Rattle.mt_index.specs.Calls.{all_reserved}
use Rattle.mt_index.specs.Paired.{Paired}
use Rattle.mt_index.specs.Viewing.{AreExact}
use Rattle.mt_index.specs.Stands.{MachineView, CallStands, Stands, holding}
use Rattle.mt_reach.specs.Reach.{IsClosedAt}
use Rattle.mt_index.specs.Rebase.{HasSameRows, rebased}

no_more : (k : ℕ) → k + 0 ≡ k
no_more k = omega arith

held_bare : (m : Moment) → m.views ≡ [] → m.calls ≡ [] → held_from m ≡ length m.commits
held_bare m v c = rw (v, c) refl

none_holds : (m : Moment) → m.views ≡ [] → m.calls ≡ [] → holding m ≡ []
none_holds m v c = rw (v, c) refl

all_dropped : (n : ℕ) (ds : List Delta) → length ds ≡ n → [] ≡ drop n ds
all_dropped n ds is = sym (ap (λ (k : ℕ). drop k ds) (sym is) ∙ drop-length ds)

abbrev one_if : Bool → ℕ
one_if b = cond b 1 0

-- a list in which no number is held is empty
none_left : (holders : List ℕ) → ((number : ℕ) → times_held number holders ≡ 0) → holders ≡ []
none_left [] all = refl
none_left (n ∷ ns) all =
    let first : times_held n (n ∷ ns) ≡ one_if (n == n) + times_held n ns = sum_by-cons (λ (h : ℕ). one_if (h == n)) n ns in
    let is_one : one_if true ≡ 1 = refl in
    let one : one_if (n == n) ≡ one_if true = elim (eqb_tells n n) [ inl p ↦ ap one_if p.0 | inr p ↦ absurd (p.1 refl) ] in
    let none = all n in
    absurd (omega (arith, first, one, is_one, none))

-- calls that are paired with none are none
none_paired : (R : ℕ × Call → OpenCall → Type 0) (low high : ℕ) (calls : List OpenCall) → Paired R low high [] calls → calls ≡ []
none_paired R low high [] is = refl
none_paired R low high (call ∷ calls) is = absurd is

-- views without numbers are none
none_standing : (views : List (ℕ × StateView)) → all_standing views ≡ [] → views ≡ []
none_standing [] is = refl
none_standing (view ∷ views) is = cc

-- and so are calls of which none is paired
none_open : (R : ℕ × Call → OpenCall → Type 0) (low high : ℕ) (kept : List (ℕ × Call)) → Paired R low high kept [] → kept ≡ []
none_open R low high [] is = refl
none_open R low high (k ∷ kept) is = absurd is

-- no call is open; no view was ever built, and no epoch has passed
pub record IsBare (s : MachineView) : Type 0 where
  pub calls : s.calls.calls ≡ []
  pub built : s.views.built ≡ 0
  pub views : s.views.views ≡ []
  pub epoch : s.epoch ≡ 0

pub bare_at : (s : MachineView) (h : History) (n : ℕ) → Stands s h → IsClosedAt n h → IsBare s
bare_at s h n st closed = record {
  calls = none_open (CallStands s.columns s.epoch s.tree st.w h) 0 s.calls.begun s.calls.calls
      (subst (λ (l : List OpenCall). Paired (CallStands s.columns s.epoch s.tree st.w h) 0 s.calls.begun s.calls.calls l) closed.calls st.calls);
  built = st.views.built ∙ closed.built;
  views = none_standing s.views.views (sym st.views.standing ∙ closed.views);
  epoch = st.epoch ∙ closed.epoch;
}

module _ (s : MachineView) (h : History) (st : Stands s h) (bare : IsBare s) where
  -- no call is open, and no view stands, at the history either
  no_calls : (moment h).calls ≡ []
  no_calls = none_paired (CallStands s.columns s.epoch s.tree st.w h) 0 s.calls.begun (moment h).calls
      (subst (λ (l : List (ℕ × Call)). Paired (CallStands s.columns s.epoch s.tree st.w h) 0 s.calls.begun l (moment h).calls) bare.calls st.calls)

  no_views : (moment h).views ≡ []
  no_views = st.views.standing ∙ ap all_standing bare.views

  none_held : (number : ℕ) → times_held number s.log.holders ≡ 0
  none_held number = st.held number ∙ ap (times_held number) (none_holds (moment h) no_views no_calls)

  pub unheld : s.log.holders ≡ []
  unheld = none_left s.log.holders none_held

  pub unreserved : s.log.reserved ≡ 0
  unreserved = st.reserved ∙ ap all_reserved bare.calls

  pub rebase_stands : (n : ℕ) (other : History) → HasSameRows s.columns n h other → Stands (rebased n s) other
  rebase_stands n other same =
      let m = moment other in
      let closed = same.closed in
      record {
        legal = same.legal;
        few = st.few;
        commits = no_more n ∙ sym closed.commits;
        begun = sym closed.begun;
        epoch = bare.epoch ∙ sym closed.epoch;
        w = st.w;
        world = st.world;
        content = subst (λ (rs : Rows). (key : List ℕ) → AreBytes key → (row : Row) → HasRow s.tree key row ↔ (get rs key ≡ Some row)) (sym same.rows) st.content;
        keys = subst (λ (rs : Rows). (key : List ℕ) (row : Row) → get rs key ≡ Some row → AreBytes key) (sym same.rows) st.keys;
        logged = all_dropped n (deltas_of s.columns m.commits) (deltas_of-length s.columns m.commits ∙ closed.commits);
        trimmed =
            let held = held_bare m closed.views closed.calls in
            let many = closed.commits in
            let e : n ≡ min (held_from m) (max n (length m.commits - s.log.retention)) = omega (arith, held, many) in e;
        counted = st.counted ∙ ap len (sym same.rows);
        held = λ number. none_held number ∙ ap (times_held number) (sym (none_holds m closed.views closed.calls));
        views = record {
          built = bare.built ∙ sym closed.built;
          standing = closed.views ∙ ap all_standing (sym bare.views);
          exact = subst (λ (l : List (ℕ × StateView)). AreExact s.columns m l) (sym bare.views) tt;
          rises = st.views.rises;
          building = st.views.building ∙ ap (λ (l : List OpenCall). count_by (λ (call : OpenCall). is_build call.request) l) (no_calls ∙ sym closed.calls);
          few = st.views.few;
        };
        calls =
            subst (λ (l : List OpenCall). Paired (CallStands s.columns s.epoch s.tree st.w other) 0 n s.calls.calls l) (sym closed.calls)
            (subst (λ (l : List (ℕ × Call)). Paired (CallStands s.columns s.epoch s.tree st.w other) 0 n l []) (sym bare.calls) (omega arith));
        in_order = st.in_order;
        apart = st.apart;
        owned = st.owned;
        reserved = st.reserved;
      }
