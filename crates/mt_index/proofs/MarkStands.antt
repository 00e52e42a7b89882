-- A machine on which no call is open, at another history: after more changes than before, or after fewer.
use Rattle.std.proofs.Common.{◌≡◌, ◌≤◌, ◌-◌, ℕ, List, [], ◌∷◌, ◌++◌, length, map, filter, take, min, max, Some, refl, sym, ap, subst, ◌∙◌, arith}
use Rattle.std.specs.Prelude.{count_by}
use Rattle.std.specs.FinMap.{get, len}
use Rattle.std.specs.List.{AllByRecursion}
use Rattle.std.proofs.Math.Nat.{min-le_left}
use Rattle.std.proofs.lemmas.List.{append-nil}
use Rattle.mt_types.specs.Numbers.{greatest_number}
use Rattle.mt_types.specs.Rows.{after}
use Rattle.mt_types.specs.declared.row.Row.{Row}
use Rattle.mt_types.specs.declared.row.Change.{Change}
use Rattle.mt_slice.specs.Place.{AreBytes}
use Rattle.mt_promise.specs.History.{History, Moment, OpenCall, StandingView, moment, rows}
use Rattle.mt_promise.specs.Legal.{Legal, held_from, is_build, reads_log}
use Rattle.mt_commit.specs.Laws.{times_held}
use Rattle.mt_commit.specs.Log.{LogView, IsLog, keeping_all, kept_after, newest}
use Rattle.mt_arena.specs.Arena.{ArenaView}
use Rattle.mt_chart.specs.Tree.{Among}
use Rattle.mt_steps.specs.Lone.{IsLoneTree}
use Rattle.mt_view.specs.State.{StateView, IsAfresh}
use Rattle.mt_view.specs.Views.{all_standing}
use Rattle.mt_undo.specs.Undoing.{HaveMade}
use Rattle.mt_index.specs.declared.calls.Call.{Call}
use Rattle.mt_index.specs.Alone.{IsIdle}
use Rattle.mt_index.specs.Calls.{CallsView, all_reserved}
use Rattle.mt_index.specs.Marks.{IsAhead, mark_of}
use Rattle.mt_index.specs.Paired.{Paired}
use Rattle.mt_index.specs.Stands.{MachineView, Stands, CallStands, holding}
use Rattle.mt_index.specs.Viewing.{AreExact}

-- ---- no call is open in the history either
none_paired : (R : ℕ × Call → OpenCall → Type 0) (low high : ℕ) (kept : List (ℕ × Call)) (calls : List OpenCall) → kept ≡ [] → Paired R low high kept calls → calls ≡ []
none_paired R low high [] [] none paired = refl
none_paired R low high [] (call ∷ calls) none paired = absurd paired
none_paired R low high (one ∷ kept) calls none paired = absurd (let clash : one ∷ kept ≡ [] = none in cc)

pub none_open : (s : MachineView) (h : History) → Stands s h → IsIdle s → (moment h).calls ≡ []
none_open s h st idle = none_paired (CallStands s.columns s.epoch s.tree st.w h) 0 s.calls.begun s.calls.calls (moment h).calls idle st.calls

none_changing : (s : MachineView) → IsIdle s → Rattle.mt_index.specs.Calls.changing s.calls.calls ≡ 0
none_changing s idle = ap Rattle.mt_index.specs.Calls.changing idle

-- the tree is lone in the machine's epoch
pub idle_tree : (s : MachineView) (h : History) → Stands s h → IsIdle s → (lone : IsLoneTree s.tree) × (lone.now ≡ s.epoch)
idle_tree s h st idle = (
  record {
    now = s.epoch;
    w = st.w;
    world = st.world;
    free = λ number taken. absurd (let (k, i, owns) = st.owned number taken in none_among k (subst (λ (l : List (ℕ × Call)). Among k l) idle i));
  },
  refl,
)
  where
    none_among : (k : ℕ × Call) → Among k [] → ⊥
    none_among k i = elim i [ ]

pub none_reserved : (s : MachineView) (h : History) → Stands s h → IsIdle s → s.log.reserved ≡ 0
none_reserved s h st idle = st.reserved ∙ ap all_reserved idle

-- what a machine has made
pub has_made : (s : MachineView) (h : History) → Stands s h → HaveMade s.columns (moment h).commits s.tree s.log
has_made s h st = record { rows = st.content; logged = st.logged; newest = st.commits }

-- who holds the log when no call is open
pub held_by_views : (m n : Moment) → m.calls ≡ [] → n.calls ≡ [] → m.views ≡ n.views → holding m ≡ holding n
held_by_views m n none nothing same =
    ap (λ (cs : List OpenCall). map (λ (v : StandingView). v.at) m.views ++ map (λ (call : OpenCall). call.from) (filter (λ (call : OpenCall). reads_log call.request) cs)) (none ∙ sym nothing)
    ∙ ap (λ (vs : List StandingView). map (λ (v : StandingView). v.at) vs ++ map (λ (call : OpenCall). call.from) (filter (λ (call : OpenCall). reads_log call.request) n.calls)) same

-- ---- the machine with another tree and log, at another history of the same views
module _ (s : MachineView) (h : History) (st : Stands s h) (idle : IsIdle s) (a : ArenaView) (log : LogView) (other : History) where
  abbrev pub moved : MachineView
  moved = record { columns = s.columns; epoch = s.epoch; tree = a; log = log; calls = record s.calls { begun = (moment other).begun }; views = s.views }

  module _ (legal : Legal s.columns other) (none : (moment other).calls ≡ []) (lone : IsLoneTree a) (same_now : lone.now ≡ s.epoch) (made : HaveMade s.columns (moment other).commits a log)
      (is_trimmed : log.held_after ≡ min (held_from (moment other)) (kept_after log (length (moment other).commits))) (counted : log.rows ≡ len (rows s.columns (moment other)))
      (holders : log.holders ≡ s.log.holders) (reserved : log.reserved ≡ 0) (views : (moment other).views ≡ (moment h).views) (built : (moment other).built ≡ (moment h).built) (epoch : (moment other).epoch ≡ (moment h).epoch)
      (exact : AreExact s.columns (moment other) s.views.views) (keys : (key : List ℕ) (row : Row) → get (rows s.columns (moment other)) key ≡ Some row → AreBytes key) where
    pub moved_stands : Stands moved other
    moved_stands = record {
      legal = legal;
      few = st.few;
      commits = made.newest;
      begun = refl;
      epoch = st.epoch ∙ sym epoch;
      w = lone.w;
      world = subst (λ (n : ℕ). Rattle.mt_steps.specs.World.IsWorld a n lone.w) same_now lone.world;
      content = made.rows;
      keys = keys;
      logged = made.logged;
      trimmed = is_trimmed;
      counted = counted;
      held = λ number. ap (times_held number) holders ∙ st.held number ∙ ap (times_held number) (held_by_views (moment h) (moment other) (none_open s h st idle) none (sym views));
      views = record {
        built = st.views.built ∙ sym built;
        standing = views ∙ st.views.standing;
        exact = exact;
        rises = st.views.rises;
        building = st.views.building ∙ ap (λ (l : List OpenCall). count_by (λ (call : OpenCall). is_build call.request) l) (none_open s h st idle ∙ sym none);
        few = st.views.few;
      };
      calls = subst (λ (k : List (ℕ × Call)). Paired (CallStands s.columns s.epoch a lone.w other) 0 (moment other).begun k (moment other).calls) (sym idle)
          (subst (λ (cs : List OpenCall). Paired (CallStands s.columns s.epoch a lone.w other) 0 (moment other).begun [] cs) (sym none) (omega arith));
      in_order = st.in_order;
      apart = st.apart;
      owned = λ number taken. absurd (lone.free number taken);
      reserved = reserved ∙ sym (ap all_reserved idle);
    }

-- ---- views that stay exact
module _ (C : ℕ) (m n : Moment) where
  -- those of which the other moment has the commits too
  pub exact_where : (views : List (ℕ × StateView)) → AllByRecursion (λ (v : StandingView). v.at ≤ length n.commits) (all_standing views)
      → ((at : ℕ) → at ≤ length m.commits → at ≤ length n.commits → take at n.commits ≡ take at m.commits) → AreExact C m views → AreExact C n views
  exact_where [] within same exact = tt
  exact_where (view ∷ views) within same exact = (
    record {
      reached = within.0;
      state = record {
        spec = exact.0.state.spec;
        columns = exact.0.state.columns;
        at = exact.0.state.at;
        afresh = subst (λ (cs : List Change). IsAfresh view.1 (after C cs)) (sym (same view.1.at exact.0.reached within.0)) exact.0.state.afresh;
      };
    },
    exact_where views within.1 same exact.1,
  )

pub reached_all : (C : ℕ) (m : Moment) (views : List (ℕ × StateView)) → AreExact C m views → AllByRecursion (λ (v : StandingView). v.at ≤ length m.commits) (all_standing views)
reached_all C m [] exact = tt
reached_all C m (view ∷ views) exact = (exact.0.reached, reached_all C m views exact.1)

pub views_reached : (s : MachineView) (h : History) → Stands s h → AllByRecursion (λ (v : StandingView). v.at ≤ length (moment h).commits) (moment h).views
views_reached s h st = subst (λ (l : List StandingView). AllByRecursion (λ (v : StandingView). v.at ≤ length (moment h).commits) l) (sym st.views.standing) (reached_all s.columns (moment h) s.views.views st.views.exact)

-- ---- the mark
few_commits : (log : LogView) → IsLog log → newest log ≤ greatest_number
few_commits log is = let fits = is.fits in omega (arith, fits)

-- the log keeps all from here on
pub keeping_stands : (s : MachineView) (h : History) → IsLog s.log → Stands s h → Stands (record s { log = keeping_all s.log }) h
keeping_stands s h sound st = record {
  legal = st.legal;
  few = st.few;
  commits = st.commits;
  begun = st.begun;
  epoch = st.epoch;
  w = st.w;
  world = st.world;
  content = st.content;
  keys = st.keys;
  logged = st.logged;
  trimmed =
      let is = st.trimmed in
      let few = few_commits s.log sound in
      let commits = st.commits in
      let below : s.log.held_after ≤ held_from (moment h) = (let left = min-le_left (held_from (moment h)) (kept_after s.log (length (moment h).commits)) in omega (arith, is, left)) in
      let e : s.log.held_after ≡ min (held_from (moment h)) (max s.log.held_after (length (moment h).commits - greatest_number)) = omega (arith, below, few, commits) in e;
  counted = st.counted;
  held = st.held;
  views = st.views;
  calls = st.calls;
  in_order = st.in_order;
  apart = st.apart;
  owned = st.owned;
  reserved = st.reserved;
}

pub marked_ahead : (s : MachineView) → (h : History) × Stands s h → IsIdle s → IsLog s.log → s.log.rows ≤ newest s.log → IsAhead s (mark_of s) [] (record s { log = keeping_all s.log })
marked_ahead s (h, st) idle sound few = record {
  marked = refl;
  idle = idle;
  sound = sound;
  few = few;
  some = (h, st);
  columns = refl;
  keeps = record { base = refl; retention = refl; capacity = refl };
  led = λ h st. (h, keeping_stands s h sound st, record { own = []; block = refl; commits = sym (append-nil (moment h).commits); views = refl; built = refl; epoch = refl; begun = omega arith });
}
