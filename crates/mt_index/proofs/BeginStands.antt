-- Each begin leads from a machine at a history to a machine at the next one.
use Rattle.std.proofs.Common.{true, false, ℕ, ◌≡◌, ◌+◌, inl, inr, List, [], ◌∷◌, ◌++◌, length, Option, Some, None, refl, sym, ap, subst, ◌∙◌, arith, Bool, cond, ◌<◌}
use Rattle.mt_tree.specs.Seen.{arena_seen}
use Rattle.std.specs.Prelude.{min, nat_le, count_by}
use Rattle.mt_types.specs.declared.refusal.Refusal.{Refusal}
use Rattle.mt_types.specs.declared.numbers.PassNo.{PassNo}
use Rattle.mt_types.specs.declared.numbers.CallNo.{CallNo}
use Rattle.mt_types.specs.declared.event.Event.TheVariants.{Begin}
use Rattle.mt_types.specs.declared.event.Request.{Request}
use Rattle.mt_types.specs.declared.event.Outcome.{Outcome}
use Rattle.mt_types.specs.declared.event.Outcome.TheVariants.{Call as Called, Refused as RefusedOutcome}
use Rattle.mt_types.specs.declared.refusal.Refusal.TheVariants.{TooManyCalls, TooManyViews, Spent}
use Rattle.mt_promise.specs.History.{History, Happening, OpenCall, StandingView, happening, moment, new_call}
use Rattle.mt_promise.specs.Legal.{MayBegin, begin_fault, view_places, is_build}
use Rattle.mt_promise.proofs.HistoryLemmas.{happened_is}
use Rattle.std.proofs.lemmas.Bool.{leb-false}
use Rattle.std.proofs.lemmas.List.{length-map}
use Rattle.mt_types.specs.Limits.{refused_if, request_fault}
use Rattle.mt_types.specs.Numbers.{greatest_number}
use Rattle.mt_types.specs.declared.limits.TheConstants.{MAX_OPEN_CALLS, MAX_VIEWS}
use Rattle.mt_promise.specs.Legal.{held_from, reads_log}
use Rattle.mt_commit.specs.Log.{LogView, newest, kept_after}
use Rattle.mt_commit.specs.Laws.{times_held}
use Rattle.mt_commit.specs.Holders.{with_holder}
use Rattle.mt_chart.specs.Tree.{Among}
use Rattle.mt_index.specs.declared.calls.Call.{Call}
use Rattle.mt_works.specs.declared.work.Work.{Work}
use Rattle.mt_works.specs.declared.work.Work.TheVariants.{Get as GetWork, Build as BuildWork}
use Rattle.mt_steps.specs.Step.{Held}
use Rattle.mt_works.specs.Works.{request_of, held, IsNew, OpensAt}
use Rattle.mt_view.specs.Views.{ViewsView, places, standing}
use Rattle.mt_index.specs.Viewing.{ViewsStand, ReadsFrom, ReadsOf}
use Rattle.mt_index.proofs.ViewStands.{all_exact_still, builds_of, paired-builds}
use Rattle.mt_index.specs.Paired.{Paired}
use Rattle.mt_index.specs.Calls.{CallsView}
use Rattle.mt_index.specs.Stands.{MachineView, CallStands, WasBlocked, IsPast, Stands, holding, pinned, placed, Begins, fault_of, with_call}
use Rattle.mt_index.proofs.PairedLemmas.{paired-append, paired-length, paired-each}
use Rattle.mt_index.proofs.ListLemmas.{reserves, among_before, among_append, total_append, order_append}
use Rattle.mt_index.proofs.NumberLemmas.{or_none}
use Rattle.mt_index.proofs.LogStands.{holds_from, pinned_is, least_pinned, held_more, slowest_is, all-held}
use Rattle.mt_index.proofs.StepStands.{held_before, builds_before}
use Rattle.mt_index.proofs.PastLemmas.{past_new}
use Rattle.mt_index.proofs.LaterStands.{all_later, same_stands, seen}

-- ---- begins
machine_fault : (s : MachineView) (h : History) (request : Request) → Stands s h → fault_of s request ≡ begin_fault s.columns (moment h).begun (length (moment h).calls) (view_places (moment h)) request
machine_fault s h request st =
    let views = ap (λ (vs : List StandingView). length vs) st.views.standing ∙ length-map s.views.views standing in
    let all = st.views.building in
    let places : length s.views.views + s.views.building ≡ view_places (moment h) = omega (arith, views, all) in
    ap (λ (n : ℕ). begin_fault s.columns n (length s.calls.calls) (length s.views.views + s.views.building) request) st.begun
    ∙ ap (λ (n : ℕ). begin_fault s.columns (moment h).begun n (length s.views.views + s.views.building) request) (paired-length _ _ _ _ _ st.calls)
    ∙ ap (λ (n : ℕ). begin_fault s.columns (moment h).begun (length (moment h).calls) n request) places

-- a build that can begin finds a place
pub begun_place : (C begun opened taken : ℕ) (request : Request) → begin_fault C begun opened taken request ≡ None → is_build request ≡ true → taken < MAX_VIEWS
begun_place C begun opened taken request none builds =
    leb-false MAX_VIEWS taken (not_refused (nat_le MAX_VIEWS taken)
    (sym (ap (λ (b : Bool). cond b (refused_if (nat_le MAX_VIEWS taken) TooManyViews) None) builds)
    ∙ or_none (refused_if (nat_le MAX_OPEN_CALLS opened) TooManyCalls) _ (or_none (refused_if (nat_le greatest_number begun) Spent) _ (or_none (request_fault C request) _ none))))
  where
    not_refused : (b : Bool) → refused_if b TooManyViews ≡ None → b ≡ false
    not_refused false e = refl
    not_refused true e = absurd (let clash : ◌≡◌ {A = Option Refusal} (Some TooManyViews) None = e in cc)

pub called : (s : MachineView) (pass : PassNo) (request : Request) (work : Work) (h : History) → Stands s h → fault_of s request ≡ None → request_of work ≡ request → IsNew s.columns (newest s.log) work
    → Stands (with_call s pass work) (happening (Begin pass request) (Called (record { 0 = s.calls.begun + 1 })) 0 ∷ h)
called s pass request work h st none is new =
    let log_is = pinned_is (reads_log (request_of work)) s.log in
    subst (λ (g : LogView). Stands (record s { log = g; calls = calls; views = placed (is_build (request_of work)) s.views }) (x ∷ h)) (sym log_is) (record {
      legal = (
        st.legal,
        subst (λ r. MayBegin (moment h) r (Called (record { 0 = s.calls.begun + 1 }))) (sym none ∙ machine_fault s h request st)
            (inl (ap (λ (n : ℕ). Called (record { 0 = n + 1 })) st.begun)),
      );
      few = st.few;
      commits = st.commits;
      begun = ap (λ (n : ℕ). n + 1) st.begun;
      epoch = st.epoch;
      in_order = order_append 0 s.calls.calls (s.calls.begun + 1, call) st.in_order (omega arith) (λ k i. (paired-each (CallStands s.columns s.epoch s.tree st.w h) 0 s.calls.begun s.calls.calls (moment h).calls st.calls k i).1.epoch);
      w = st.w;
      world = st.world;
      content = st.content;
      keys = st.keys;
      logged = st.logged;
      counted = st.counted;
      trimmed = st.trimmed ∙ ap (λ (n : ℕ). min n (kept_after s.log (length (moment h).commits))) still_bound;
      held = now_holds;
      views = now_placed;
      calls = paired;
      apart = λ one other i j ne number owned mine. elim (among_append s.calls.calls (s.calls.begun + 1, call) one i) [
        | inl a ↦ elim (among_append s.calls.calls (s.calls.begun + 1, call) other j) [
          | inl b ↦ st.apart one other a b ne number owned mine
          | inr b ↦ owns_none number (subst (λ (l : List ℕ). Among number l) (ap (λ (k : ℕ × Call). (held k.1.work).owns) b ∙ ap (λ (d : Held). d.owns) new.has) mine)
        ]
        | inr a ↦ owns_none number (subst (λ (l : List ℕ). Among number l) (ap (λ (k : ℕ × Call). (held k.1.work).owns) a ∙ ap (λ (d : Held). d.owns) new.has) owned)
      ];
      owned = λ number taken. let (k, i, o) = st.owned number taken in (k, among_before s.calls.calls (s.calls.begun + 1, call) k i, o);
      reserved = let more = total_append reserves s.calls.calls (s.calls.begun + 1, call) in let zero = ap (λ (d : Held). d.reserves) new.has in let all = st.reserved in omega (arith, more, zero, all);
    })
  where
    x : Happening
    x = happening (Begin pass request) (Called (record { 0 = s.calls.begun + 1 })) 0

    call : Call
    call = record { pass = pass; from = newest s.log; epoch = s.epoch; work = work }

    calls : CallsView
    calls = record { begun = s.calls.begun + 1; calls = s.calls.calls ++ (s.calls.begun + 1, call) ∷ [] }

    owns_none : (number : ℕ) → Among number [] → ⊥
    owns_none number i = elim i [ ]

    -- a build opens at the commits that there are
    new_reads : (w : Work) → OpensAt s.columns (newest s.log) w → ReadsOf s.columns (moment h).commits (length (moment h).commits) w
    new_reads (BuildWork building) (scans, at, columns) = (columns, subst (λ (u : Option ℕ). ReadsFrom s.columns (moment h).commits (length (moment h).commits) u building.build.state) (sym scans) (at ∙ st.commits))
    new_reads (GetWork g) opens = tt
    new_reads _ opens = tt

    paired : Paired (CallStands s.columns s.epoch s.tree st.w (x ∷ h)) 0 (s.calls.begun + 1) (s.calls.calls ++ (s.calls.begun + 1, call) ∷ []) (moment (x ∷ h)).calls
    paired = paired-append (CallStands s.columns s.epoch s.tree st.w (x ∷ h)) 0 s.calls.begun s.calls.calls (moment h).calls (s.calls.begun + 1, call) (new_call (moment h) pass.0 request (s.calls.begun + 1)) (all_later s h x st refl) (ap (λ (n : ℕ). n + 1) refl) refl
        (record {
          pass = refl;
          request = sym is;
          from = sym st.commits;
          began = let e = happened_is h in omega arith;
          epoch = omega arith;
          committed = sym (ap (λ (d : Held). d.committed) new.has);
          blocked = subst (λ (b : Option ℕ). WasBlocked (moment h).happened (x ∷ h) b) (sym (ap (λ (d : Held). d.blocked) new.has)) tt;
          past = [];
          passed = subst (λ (m : ℕ). IsPast s.columns m (length (moment h).commits) (x ∷ h) (arena_seen s.tree ∷ [])) (sym (happened_is h)) (past_new s.columns x h s.tree st.content st.keys);
          true = new.true s.tree s.epoch s.epoch st.w st.world;
          reads = new_reads work new.opens;
        })

    -- a build keeps a place
    now_placed : ViewsStand s.columns (moment (x ∷ h)) (placed (is_build (request_of work)) s.views)
    now_placed = by_kind (is_build (request_of work)) refl
      where
        counted : s.views.building + cond (is_build (request_of work)) 1 0 ≡ count_by (λ (call : OpenCall). is_build call.request) (moment (x ∷ h)).calls
        counted =
            let all = builds_before s h st in
            let more = total_append builds_of s.calls.calls (s.calls.begun + 1, call) in
            let there = paired-builds (CallStands s.columns s.epoch s.tree st.w (x ∷ h)) (λ k c r. r.request) 0 (s.calls.begun + 1) (s.calls.calls ++ (s.calls.begun + 1, call) ∷ []) (moment (x ∷ h)).calls paired in
            omega (arith, all, more, there)

        by_kind : (b : Bool) → is_build (request_of work) ≡ b → ViewsStand s.columns (moment (x ∷ h)) (placed b s.views)
        by_kind true builds = record {
          built = st.views.built;
          standing = st.views.standing;
          exact = all_exact_still s.columns (moment h) (moment (x ∷ h)) (inl refl) s.views.views st.views.exact;
          rises = st.views.rises;
          building = let one : ◌≡◌ {A = ℕ} (cond (is_build (request_of work)) 1 0) 1 = ap (λ (t : Bool). cond t 1 0) builds in let all = counted in omega (arith, one, all);
          few = let room = begun_place s.columns s.calls.begun (length s.calls.calls) (places s.views) request none (ap is_build (sym is) ∙ builds) in omega (arith, room);
        }
        by_kind false builds = record {
          built = st.views.built;
          standing = st.views.standing;
          exact = all_exact_still s.columns (moment h) (moment (x ∷ h)) (inl refl) s.views.views st.views.exact;
          rises = st.views.rises;
          building = let zero : ◌≡◌ {A = ℕ} (cond (is_build (request_of work)) 1 0) 0 = ap (λ (t : Bool). cond t 1 0) builds in let all = counted in omega (arith, zero, all);
          few = st.views.few;
        }

    -- it holds the log, if it reads it, from the newest commit on
    now_holds : (number : ℕ) → times_held number (cond (reads_log (request_of work)) (with_holder (newest s.log) s.log.holders) s.log.holders) ≡ times_held number (holding (moment (x ∷ h)))
    now_holds number =
        held_more (reads_log (request_of work)) (newest s.log) number _ _ _ s.log.holders (held_before s h st number) (total_append (holds_from number) s.calls.calls (s.calls.begun + 1, call))
        ∙ sym (all-held (CallStands s.columns s.epoch s.tree st.w (x ∷ h)) (λ k c r. r.from) (λ k c r. r.request) number 0 (s.calls.begun + 1) (s.calls.calls ++ (s.calls.begun + 1, call) ∷ []) (moment (x ∷ h)) paired)

    -- so it is held from where it was
    still_bound : held_from (moment h) ≡ held_from (moment (x ∷ h))
    still_bound =
        sym (slowest_is s.log (moment h) st.commits st.held)
        ∙ sym (least_pinned (reads_log (request_of work)) s.log)
        ∙ slowest_is (record s.log { holders = cond (reads_log (request_of work)) (with_holder (newest s.log) s.log.holders) s.log.holders }) (moment (x ∷ h)) st.commits now_holds

pub begins-stands : (s t : MachineView) (pass : PassNo) (request : Request) (outcome : Outcome) (h : History)
    → Begins s pass request outcome t → Stands s h → Stands t (happening (Begin pass request) outcome 0 ∷ h)
begins-stands s t pass request (Called number) h b st =
    subst (λ (n : CallNo). Stands t (happening (Begin pass request) (Called n) 0 ∷ h)) (sym b.1)
    (subst (λ (u : MachineView). Stands u (happening (Begin pass request) (Called (record { 0 = s.calls.begun + 1 })) 0 ∷ h)) (sym b.5) (called s pass request b.2 h st b.0 b.3 b.4))
begins-stands s t pass request (RefusedOutcome refusal) h b st =
    subst (λ (u : MachineView). Stands u (happening (Begin pass request) (RefusedOutcome refusal) 0 ∷ h)) (sym b.1)
    (same_stands s h (happening (Begin pass request) (RefusedOutcome refusal) 0) st
    (elim b.0 [
      | inl e ↦ subst (λ r. MayBegin (moment h) r (RefusedOutcome refusal)) (sym e ∙ machine_fault s h request st) refl
      | inr e ↦ subst (λ r. MayBegin (moment h) r (RefusedOutcome refusal)) (sym e.0 ∙ machine_fault s h request st) (inr (ap (λ r. RefusedOutcome r) e.1))
    ])
    refl refl refl refl refl refl)
begins-stands s t pass request _ h b st = absurd b

-- a begin leaves the machine with its call
pub begun-stands : (s : MachineView) (pinned_log : LogView) (new : CallsView) (kept_views : ViewsView) (pass : PassNo) (from : ℕ) (request : Request) (work : Work) → fault_of s request ≡ None → request_of work ≡ request → IsNew s.columns (newest s.log) work → from ≡ newest s.log
    → new ≡ record { begun = s.calls.begun + 1; calls = s.calls.calls ++ (s.calls.begun + 1, record { pass = pass; from = from; epoch = s.epoch; work = work }) ∷ [] } → pinned_log ≡ pinned (reads_log (request_of work)) s.log → kept_views ≡ placed (is_build (request_of work)) s.views
    → seen s.columns s.epoch s.tree pinned_log new kept_views ≡ with_call s pass work
begun-stands s pinned_log new kept_views pass from request work none is is_new from_is more log_is views_are =
    ap (λ (g : LogView). seen s.columns s.epoch s.tree g new kept_views) log_is
    ∙ ap (λ (c : CallsView). seen s.columns s.epoch s.tree (pinned (reads_log (request_of work)) s.log) c kept_views)
    (more ∙ ap (λ (m : ℕ). record { begun = s.calls.begun + 1; calls = s.calls.calls ++ (s.calls.begun + 1, record { pass = pass; from = m; epoch = s.epoch; work = work }) ∷ [] }) from_is)
    ∙ ap (seen s.columns s.epoch s.tree (pinned (reads_log (request_of work)) s.log) (record { begun = s.calls.begun + 1; calls = s.calls.calls ++ (s.calls.begun + 1, record { pass = pass; from = newest s.log; epoch = s.epoch; work = work }) ∷ [] })) views_are

-- an event leaves the number of columns
pub begins-columns : (s t : MachineView) (pass : PassNo) (request : Request) (outcome : Outcome) → Begins s pass request outcome t → t.columns ≡ s.columns
begins-columns s t pass request (Called number) (none, numbered, work, asks, new, next) = ap (λ (m : MachineView). m.columns) next
begins-columns s t pass request (RefusedOutcome refusal) (why, same) = ap (λ (m : MachineView). m.columns) same
begins-columns s t pass request _ never = absurd never
