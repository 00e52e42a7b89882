-- A machine that is ahead of a mark: what it keeps since then, and that it stands once it has settled or gone back.
use Rattle.std.proofs.Common.{◌≡◌, ◌<◌, ◌≤◌, ◌+◌, ◌-◌, ◌==◌, ℕ, cond, List, [], ◌∷◌, ◌++◌, length, map, min, take, Some, refl, sym, ap, subst, ◌∙◌, arith, length-append}
use Rattle.std.specs.Prelude.{All, Contains}
use Rattle.std.specs.FinMap.{get, len}
use Rattle.std.specs.List.{AllByRecursion}
use Rattle.std.proofs.Math.Nat.{min-le_left}
use Rattle.std.proofs.lemmas.Bool.{eq-eqb}
use Rattle.std.proofs.lemmas.List.{append-nil, take-append-le}
use Rattle.std.proofs.lemmas.List.Elements.{All-contains, All-from_recursion}
use Rattle.std.proofs.lemmas.List.Sums.{sum_by-cons}
use Rattle.mt_types.specs.Numbers.{greatest_number, least}
use Rattle.mt_types.specs.Rows.{after}
use Rattle.mt_types.specs.declared.row.Change.{Change}
use Rattle.mt_promise.specs.History.{History, OpenCall, StandingView, moment, rows}
use Rattle.mt_promise.specs.Legal.{Legal, held_from}
use Rattle.mt_commit.specs.Laws.{times_held}
use Rattle.mt_commit.specs.Log.{LogView, IsLog, kept_after, kept_as, newest, trimmed}
use Rattle.mt_commit.proofs.CountLemmas.{counted_is_held}
use Rattle.mt_arena.specs.Arena.{ArenaView}
use Rattle.mt_steps.specs.Lone.{IsLoneTree}
use Rattle.mt_undo.specs.Undoing.{CanGoBack, HaveGoneBack, HaveMade, IsPut}
use Rattle.mt_view.specs.Views.{all_standing}
use Rattle.mt_index.specs.declared.marks.Mark.{Mark}
use Rattle.mt_index.specs.Alone.{IsIdle}
use Rattle.mt_index.specs.Marks.{GoesOnBy, GoesOnByCalls, IsAhead}
use Rattle.mt_index.specs.Calls.{CallsView}
use Rattle.mt_index.specs.Stands.{MachineView, Stands, HasBounds, holding}
use Rattle.mt_index.proofs.LogStands.{LogAt, least_grows, trims}
use Rattle.mt_index.proofs.MarkStands.{exact_where, has_made, held_by_views, idle_tree, moved_stands, none_open, none_reserved, reached_all, views_reached}

-- ---- numbers that are held
held_within : (bound : ℕ) (xs ys : List ℕ) → ((number : ℕ) → 0 < times_held number xs → 0 < times_held number ys) → All (λ n. n ≤ bound) ys → AllByRecursion (λ n. n ≤ bound) xs
held_within bound [] ys sub within = tt
held_within bound (x ∷ xs) ys sub within =
    let more : (number : ℕ) → times_held number (x ∷ xs) ≡ cond (x == number) 1 0 + times_held number xs = λ number. sum_by-cons (λ (n : ℕ). cond (n == number) 1 0) x xs in
    let here = more x in
    let one : ◌≡◌ {A = ℕ} (cond (x == x) 1 0) 1 = ap (λ b. cond b 1 0) (eq-eqb x x refl) in (
      All-contains (λ n. n ≤ bound) ys x within (counted_is_held x ys (sub x (omega (arith, here, one)))),
      held_within bound xs ys (λ number some. sub number (let all = more number in omega (arith, all, some))) within,
    )

views_within : (bound : ℕ) (views : List StandingView) → AllByRecursion (λ (v : StandingView). v.at ≤ bound) views → AllByRecursion (λ n. n ≤ bound) (map (λ (v : StandingView). v.at) views ++ [])
views_within bound [] within = tt
views_within bound (v ∷ views) within = (within.0, views_within bound views within.1)

-- ---- ahead of a mark
module _ (s m : MachineView) (mark : Mark) (made : List Change) (ahead : IsAhead s mark made m) (idle : IsIdle m) (sound : IsLog m.log) (h : History) (st : Stands s h) where
  g : History
  g = (ahead.led h st).0

  gst : Stands m g
  unfolding g
  gst = (ahead.led h st).1

  on : GoesOnBy h made g
  unfolding g
  on = (ahead.led h st).2

  none_before : (moment h).calls ≡ []
  none_before = none_open s h st ahead.idle

  none_now : (moment g).calls ≡ []
  none_now = none_open m g gst idle

  same_holding : holding (moment h) ≡ holding (moment g)
  same_holding = held_by_views (moment h) (moment g) none_before none_now (sym on.views)

  pub newest_more : newest m.log ≡ newest s.log + length made
  newest_more = let now = gst.commits in let before = st.commits in let both = ap length on.commits ∙ length-append (moment h).commits made in omega (arith, now, before, both)

  -- the log has trimmed nothing since
  pub held_same : m.log.held_after ≡ s.log.held_after
  held_same =
      let is = gst.trimmed in
      let base = ahead.keeps.base in
      let retention = ahead.keeps.retention in
      let commits = gst.commits in
      let fits = sound.fits in
      let low : s.log.held_after ≤ held_from (moment h) = (let is = st.trimmed in let left = min-le_left (held_from (moment h)) (kept_after s.log (length (moment h).commits)) in omega (arith, is, left)) in
      let grown : held_from (moment h) ≤ held_from (moment g) =
      subst (λ (l : List ℕ). least (length (moment h).commits) l ≤ held_from (moment g)) (sym same_holding)
      (least_grows (length (moment h).commits) (length (moment g).commits) (holding (moment g)) (let both = ap length on.commits ∙ length-append (moment h).commits made in omega (arith, both))) in
      omega (arith, is, base, retention, commits, fits, low, grown)

  keeping_base : mark.keeping.base ≡ s.log.base
  keeping_base = ap (λ (k : Mark). k.keeping.base) ahead.marked

  keeping_retention : mark.keeping.retention ≡ s.log.retention
  keeping_retention = ap (λ (k : Mark). k.keeping.retention) ahead.marked

  -- so it can keep as before
  pub may_begin : (left : LogView) → left.held_after ≡ m.log.held_after → mark.keeping.base ≤ left.held_after
  may_begin left same = let begun = ahead.sound.begun in let base = keeping_base in let held = held_same in omega (arith, begun, base, held, same)

  pub may_keep : (left : LogView) → left.held_after ≡ m.log.held_after → newest s.log ≤ newest left → left.held_after ≤ kept_after (kept_as mark.keeping left) (newest left)
  may_keep left same more = let kept = ahead.sound.kept in let base = keeping_base in let retention = keeping_retention in let held = held_same in omega (arith, kept, base, retention, held, same, more)

  pub sound_as : (left : LogView) → IsLog left → left.held_after ≡ m.log.held_after → newest s.log ≤ newest left → IsLog (kept_as mark.keeping left)
  sound_as left is same more = record {
    numbered = is.numbered;
    holders_from = is.holders_from;
    holders_to = is.holders_to;
    begun = may_begin left same;
    kept = may_keep left same more;
    fits = is.fits;
  }

  -- ---- settled
  pub settled_stands : (other : History) → Stands m other → Stands (record m { log = trimmed (kept_as mark.keeping m.log) }) other
  settled_stands other ost =
      let log = sound_as m.log sound refl (let more = newest_more in omega (arith, more)) in
      let at : LogAt m.columns (kept_as mark.keeping m.log) (moment other) = record { commits = ost.commits; logged = ost.logged; rows = ost.counted; held = ost.held } in
      let done = trims m.columns (kept_as mark.keeping m.log) (moment other) log at in
      record {
        legal = ost.legal;
        few = ost.few;
        commits = done.commits;
        begun = ost.begun;
        epoch = ost.epoch;
        w = ost.w;
        world = ost.world;
        content = ost.content;
        keys = ost.keys;
        logged = done.logged;
        trimmed = done.trimmed;
        counted = done.rows;
        held = done.held;
        views = ost.views;
        calls = ost.calls;
        in_order = ost.in_order;
        apart = ost.apart;
        owned = ost.owned;
        reserved = ost.reserved;
      }

  -- and as if each change was made by a call, of which nothing else is known
  pub recounted_stands : (other : History) → Legal m.columns other → (moment other).calls ≡ [] → GoesOnBy h made other
      → Stands (record m { log = trimmed (kept_as mark.keeping m.log); calls = record m.calls { begun = (moment other).begun } }) other
  recounted_stands other legal none by =
      let x : MachineView = record m { log = trimmed (kept_as mark.keeping m.log) } in
      let xst : Stands x g = settled_stands g gst in
      let commits : (moment other).commits ≡ (moment g).commits = by.commits ∙ sym on.commits in
      let views : (moment other).views ≡ (moment g).views = by.views ∙ sym on.views in
      let (lone, now) = idle_tree x g xst idle in
      let same_held : held_from (moment g) ≡ held_from (moment other) =
      ap (λ (cs : List Change). least (length cs) (holding (moment g))) (sym commits)
      ∙ ap (least (length (moment other).commits)) (held_by_views (moment g) (moment other) none_now none (sym views)) in
      moved_stands x g xst idle x.tree x.log other legal none lone now
      (subst (λ (cs : List Change). HaveMade x.columns cs x.tree x.log) (sym commits) (has_made x g xst))
      (xst.trimmed ∙ ap (λ (n : ℕ). min n (kept_after x.log (length (moment g).commits))) same_held
      ∙ ap (λ (cs : List Change). min (held_from (moment other)) (kept_after x.log (length cs))) (sym commits))
      (xst.counted ∙ ap (λ (cs : List Change). len (after x.columns cs)) (sym commits))
      refl (none_reserved x g xst idle)
      views (by.built ∙ sym on.built) (by.epoch ∙ sym on.epoch)
      (exact_where x.columns (moment g) (moment other) x.views.views
      (subst (λ (cs : List Change). AllByRecursion (λ (v : StandingView). v.at ≤ length cs) (all_standing x.views.views)) (sym commits) (reached_all x.columns (moment g) x.views.views xst.views.exact))
      (λ at now before. ap (take at) commits)
      xst.views.exact)
      (λ key row is. xst.keys key row (ap (λ (cs : List Change). get (after x.columns cs) key) (sym commits) ∙ is))

  -- so many calls had begun
  pub begun_since : mark.begun + length made ≤ m.calls.begun
  begun_since = let is = on.begun in let now = gst.begun in let before = st.begun in let marked = ap (λ (k : Mark). k.begun) ahead.marked in omega (arith, is, now, before, marked)

  pub few_calls : m.calls.begun ≤ greatest_number → (moment h).begun + length made ≤ greatest_number
  few_calls few = let is = on.begun in let now = gst.begun in omega (arith, is, now, few)

  pub commits_since : newest m.log ≡ mark.commits + length made
  commits_since = let more = newest_more in let marked = ap (λ (k : Mark). k.commits) ahead.marked in omega (arith, more, marked)

  -- the machine that has settled
  pub settled_as : (other : History) → GoesOnByCalls m.columns h made other → (number : ℕ) → number ≡ newest m.log → (log : LogView) → log ≡ trimmed (kept_as mark.keeping m.log)
      → (calls : CallsView) → calls ≡ record m.calls { begun = mark.begun + (number - mark.commits) } → Stands (record m { log = log; calls = calls }) other
  settled_as other by number is log is_log calls is_calls =
      let marked = ap (λ (k : Mark). k.begun) ahead.marked in
      let before = st.begun in
      let since = commits_since in
      let begun = by.begun in
      let e : mark.begun + (number - mark.commits) ≡ (moment other).begun = omega (arith, marked, before, since, is, begun) in
      subst (λ (l : LogView). Stands (record m { log = l; calls = calls }) other) (sym is_log)
      (subst (λ (cs : CallsView). Stands (record m { log = trimmed (kept_as mark.keeping m.log); calls = cs }) other) (sym (is_calls ∙ ap (λ (n : ℕ). record m.calls { begun = n }) e))
      (recounted_stands other by.legal by.closed by.on))

  pub settled_bounds : HasBounds s.log.capacity s.log.retention (trimmed (kept_as mark.keeping m.log))
  settled_bounds = (ahead.keeps.capacity, keeping_retention)

  -- ---- gone back
  commits_are : mark.commits ≡ length (moment h).commits
  commits_are = ap (λ (k : Mark). k.commits) ahead.marked ∙ st.commits

  pub can_go_back : AllByRecursion IsPut made → CanGoBack m.columns (moment h).commits made mark.commits mark.rows m.tree m.log
  can_go_back puts = record {
    made = subst (λ (cs : List Change). HaveMade m.columns cs m.tree m.log) on.commits (has_made m g gst);
    are_puts = puts;
    many = sym commits_are;
    held = let held = held_same in let commits = ap (λ (k : Mark). k.commits) ahead.marked in omega (arith, held, commits);
    keeps = ahead.keeps.base ∙ sym held_same;
    holders = All-from_recursion (λ n. n ≤ mark.commits) m.log.holders
        (held_within mark.commits m.log.holders (holding (moment h)) (λ number some. subst (λ (n : ℕ). 0 < n) (gst.held number ∙ ap (times_held number) (sym same_holding)) some)
        (All-from_recursion (λ n. n ≤ mark.commits) (holding (moment h))
        (subst (λ (l : List ℕ). AllByRecursion (λ n. n ≤ mark.commits) l) (sym bare)
        (subst (λ (n : ℕ). AllByRecursion (λ k. k ≤ n) (map (λ (v : StandingView). v.at) (moment h).views ++ [])) (sym commits_are)
        (views_within (length (moment h).commits) (moment h).views (views_reached s h st))))));
    few = let few = ahead.few in let rows = ap (λ (k : Mark). k.rows) ahead.marked in let commits = ap (λ (k : Mark). k.commits) ahead.marked in omega (arith, few, rows, commits);
    counted = λ none.
        gst.counted
        ∙ ap (λ (C : ℕ). len (after C (moment g).commits)) ahead.columns
        ∙ ap (λ (cs : List Change). len (after s.columns cs)) (on.commits ∙ ap (λ (l : List Change). (moment h).commits ++ l) none ∙ append-nil (moment h).commits)
        ∙ sym st.counted ∙ sym (ap (λ (k : Mark). k.rows) ahead.marked);
  }
    where
      bare : holding (moment h) ≡ map (λ (v : StandingView). v.at) (moment h).views ++ []
      bare = ap (λ (cs : List OpenCall). map (λ (v : StandingView). v.at) (moment h).views ++ map (λ (call : OpenCall). call.from) (Rattle.std.specs.Prelude.filter (λ (call : OpenCall). Rattle.mt_promise.specs.Legal.reads_log call.request) cs)) none_before

  pub gone_back_to : AllByRecursion IsPut made → (a : ArenaView) (left : LogView)
      → ((lone : IsLoneTree m.tree) (C : ℕ) (first puts : List Change) → CanGoBack C first puts mark.commits mark.rows m.tree m.log → HaveGoneBack C first mark.rows lone.now m.log a left)
      → HaveGoneBack m.columns (moment h).commits mark.rows m.epoch m.log a left
  gone_back_to puts a left goes =
      let (lone, now) = idle_tree m g gst idle in
      subst (λ (n : ℕ). HaveGoneBack m.columns (moment h).commits mark.rows n m.log a left) now (goes lone m.columns (moment h).commits made (can_go_back puts))

  module _ (a : ArenaView) (left : LogView) (left_sound : IsLog left) (back : HaveGoneBack m.columns (moment h).commits mark.rows m.epoch m.log a left) where
    left_held : left.held_after ≡ m.log.held_after
    left_held = ap (λ (l : LogView). l.held_after) back.same_log

    left_newest : newest s.log ≤ newest left
    left_newest = let now = back.made.newest in let before = st.commits in omega (arith, now, before)

    pub back_begins : mark.keeping.base ≤ left.held_after
    back_begins = may_begin left left_held

    pub back_keeps : left.held_after ≤ kept_after (kept_as mark.keeping left) (newest left)
    back_keeps = may_keep left left_held left_newest

    abbrev pub gone : MachineView
    gone = record { columns = m.columns; epoch = m.epoch; tree = a; log = trimmed (kept_as mark.keeping left); calls = record m.calls { begun = mark.begun }; views = m.views }

    pub gone_stands : Stands gone h
    gone_stands =
        let rows_are : left.rows ≡ len (rows m.columns (moment h)) =
        ap (λ (l : LogView). l.rows) back.same_log ∙ ap (λ (k : Mark). k.rows) ahead.marked ∙ st.counted ∙ ap (λ (C : ℕ). len (after C (moment h).commits)) (sym ahead.columns) in
        let at : LogAt m.columns (kept_as mark.keeping left) (moment h) = record {
          commits = back.made.newest;
          logged = back.made.logged;
          rows = rows_are;
          held = λ number. ap (λ (l : LogView). times_held number l.holders) back.same_log ∙ gst.held number ∙ ap (times_held number) (sym same_holding);
        } in
        let done = trims m.columns (kept_as mark.keeping left) (moment h) (sound_as left left_sound left_held left_newest) at in
        let begun : (moment h).begun ≡ mark.begun = sym st.begun ∙ sym (ap (λ (k : Mark). k.begun) ahead.marked) in
        subst (λ (n : ℕ). Stands (record { columns = m.columns; epoch = m.epoch; tree = a; log = trimmed (kept_as mark.keeping left); calls = record m.calls { begun = n }; views = m.views }) h) begun
        (moved_stands m g gst idle a (trimmed (kept_as mark.keeping left)) h
        (subst (λ (C : ℕ). Legal C h) (sym ahead.columns) st.legal)
        none_before back.lone back.same_now
        (record { rows = back.made.rows; logged = done.logged; newest = done.commits })
        done.trimmed done.rows (ap (λ (l : LogView). l.holders) back.same_log)
        (ap (λ (l : LogView). l.reserved) back.same_log ∙ none_reserved m g gst idle)
        (sym on.views) (sym on.built) (sym on.epoch)
        (exact_where m.columns (moment g) (moment h) m.views.views
        (subst (λ (l : List StandingView). AllByRecursion (λ (v : StandingView). v.at ≤ length (moment h).commits) l) (sym on.views ∙ gst.views.standing) (views_reached s h st))
        (λ at now before. sym (ap (take at) on.commits ∙ take-append-le at (moment h).commits made before))
        gst.views.exact)
        (subst (λ (C : ℕ). (key : List ℕ) (row : Rattle.mt_types.specs.declared.row.Row.Row) → get (rows C (moment h)) key ≡ Some row → Rattle.mt_slice.specs.Place.AreBytes key) (sym ahead.columns) st.keys))
