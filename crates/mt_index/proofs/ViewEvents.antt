-- Events of views lead from a machine at a history to one at the next: a build's end, applies, pages and drops.
use Rattle.std.proofs.Common.{ℕ, ◌≡◌, ◌≤◌, ◌<◌, ◌+◌, ◌-◌, ◌==◌, ◌⊎◌, ◌↔◌, inl, inr, true, cond, List, [], ◌∷◌, ◌++◌, length, take, drop, map, Option, Some, None, refl, sym, ap, subst, ◌∙◌, arith}
use Rattle.std.specs.Prelude.{count_by}
use Rattle.std.proofs.lemmas.Bool.Decides.{eqb_tells}
use Rattle.std.proofs.lemmas.List.{length-append}
use Rattle.std.specs.FinMap.{get, len}
use Rattle.mt_tree.specs.Seen.{HasRow}
use Rattle.mt_types.specs.Rows.{Rows, after}
use Rattle.mt_types.specs.Numbers.{greatest_number}
use Rattle.mt_types.specs.declared.row.Change.{Change}
use Rattle.mt_types.specs.declared.event.Request.{Request}
use Rattle.mt_types.specs.declared.event.Request.TheVariants.{Build as BuildRequest}
use Rattle.mt_types.specs.declared.event.Answer.TheVariants.{Built}
use Rattle.mt_types.specs.declared.event.Reply.{Reply}
use Rattle.mt_types.specs.declared.event.Outcome.{Outcome}
use Rattle.mt_types.specs.declared.event.Outcome.TheVariants.{Done, Refused}
use Rattle.mt_types.specs.declared.refusal.Refusal.{Refusal}
use Rattle.mt_types.specs.declared.refusal.Refusal.TheVariants.{NoMemory, NoSuchCall, Spent}
use Rattle.mt_promise.specs.History.{History, Happening, OpenCall, StandingView, happening, moment, rows, call_of, without_call, view_built, after_call_step}
use Rattle.mt_promise.specs.RightAnswers.{RightAnswer}
use Rattle.mt_promise.specs.Legal.{MayHappen, MayStepAt, MayEnd, is_build as is_build_request, reads_log}
use Rattle.mt_commit.specs.Log.{IsLog, newest, trimmed}
use Rattle.mt_commit.specs.Laws.{times_held}
use Rattle.mt_commit.specs.Holders.{with_holder}
use Rattle.mt_commit.specs.Logged.{deltas_of}
use Rattle.mt_commit.proofs.CountLemmas.{pinning_counts, unpinning_counts}
use Rattle.mt_chart.specs.Tree.{Among}
use Rattle.mt_view.specs.State.{StateView, IsAfresh}
use Rattle.mt_works.specs.History.{LeadsTo}
use Rattle.mt_works.proofs.HistoryLemmas.{led_is_afresh}
use Rattle.mt_view.specs.Views.{ViewsView, all_standing, standing}
use Rattle.mt_view.proofs.ViewLemmas.{rises-append}
use Rattle.mt_view.proofs.StandingLemmas.{opened-there}
use Rattle.mt_works.specs.declared.work.Work.{Work}
use Rattle.mt_works.specs.declared.work.Work.TheVariants.{Build as BuildWork}
use Rattle.mt_works.specs.declared.building.Building.{Building}
use Rattle.mt_works.specs.Building.{IsUpTo}
use Rattle.mt_works.specs.Works.{request_of, held}
use Rattle.mt_index.specs.declared.calls.Call.{Call}
use Rattle.mt_index.specs.Paired.{Paired}
use Rattle.mt_index.specs.Calls.{call_at, without, AreApart, total, all_reserved, BeganInOrder}
use Rattle.mt_index.specs.Viewing.{IsExact, ViewsStand, ReadsFrom, ReadsOf}
use Rattle.mt_index.specs.Stands.{MachineView, CallStands, AllOwned, Stands, Steps, EndsBuild, Opens, OpensNot, with_view, vacated}
use Rattle.mt_index.proofs.NumberLemmas.{Entries}
use Rattle.mt_index.proofs.PairedLemmas.{Found, paired-some, paired-one, paired-without}
use Rattle.mt_index.proofs.ListLemmas.{reserves, among_left, total_without, order_without}
use Rattle.mt_index.proofs.LogStands.{holds_from, all-held, trims}
use Rattle.mt_index.proofs.ViewStands.{builds_of, paired-builds, all_exact_still, exact_append, opened_holds}
use Rattle.mt_index.proofs.StepStands.{held_before, builds_before, step_event, apart_without}
use Rattle.mt_index.proofs.LaterStands.{call_later}
use Rattle.mt_index.proofs.EventStands.{step_open, unknown}

-- ---- a change of who holds the log, of the views and of the open calls, that leaves the tree and the commits
module _ (s : MachineView) (h : History) (st : Stands s h) (x : Happening) (may : MayHappen s.columns h x.event x.outcome x.opens) (commits : (moment (x ∷ h)).commits ≡ (moment h).commits) (begun : (moment (x ∷ h)).begun ≡ (moment h).begun) (epoch : (moment (x ∷ h)).epoch ≡ (moment h).epoch) where
  same_rows : rows s.columns (moment (x ∷ h)) ≡ rows s.columns (moment h)
  same_rows = ap (λ (cs : List Change). after s.columns cs) commits

  pub changed_stands : (entries : Entries) (holders : List ℕ) (views : ViewsView) → Paired (CallStands s.columns s.epoch s.tree st.w (x ∷ h)) 0 s.calls.begun entries (moment (x ∷ h)).calls → AreApart entries → AllOwned s.tree st.w entries → s.log.reserved ≡ all_reserved entries
      → ViewsStand s.columns (moment (x ∷ h)) views → IsLog (record s.log { holders = holders })
      → ((number : ℕ) → times_held number holders ≡ times_held number (map (λ (v : StandingView). v.at) (moment (x ∷ h)).views) + total (holds_from number) entries) → BeganInOrder 0 entries
      → Stands (record { columns = s.columns; epoch = s.epoch; tree = s.tree; log = trimmed (record s.log { holders = holders }); calls = record s.calls { calls = entries }; views = views }) (x ∷ h)
  changed_stands entries holders views calls apart owned reserved stand sound held in_order =
      let log = trims s.columns (record s.log { holders = holders }) (moment (x ∷ h)) sound (record {
        commits = st.commits ∙ ap length (sym commits);
        logged = st.logged ∙ ap (λ (cs : List Change). drop s.log.held_after (deltas_of s.columns cs)) (sym commits);
        rows = st.counted ∙ ap len (sym same_rows);
        held = λ number. held number ∙ sym (all-held (CallStands s.columns s.epoch s.tree st.w (x ∷ h)) (λ k c r. r.from) (λ k c r. r.request) number 0 s.calls.begun entries (moment (x ∷ h)) calls);
      }) in
      record {
        legal = (st.legal, may);
        few = st.few;
        commits = log.commits;
        begun = st.begun ∙ sym begun;
        epoch = st.epoch ∙ sym epoch;
        in_order = in_order;
        w = st.w;
        world = st.world;
        content = λ key bytes row. subst (λ (rs : Rows). HasRow s.tree key row ↔ (get rs key ≡ Some row)) (sym same_rows) (st.content key bytes row);
        keys = λ key row is. st.keys key row (sym (ap (λ (rs : Rows). get rs key) same_rows) ∙ is);
        logged = log.logged;
        trimmed = log.trimmed;
        counted = log.rows;
        held = log.held;
        views = stand;
        calls = calls;
        apart = apart;
        owned = owned;
        reserved = reserved;
      }

-- ---- the end of a build
module _ (s : MachineView) (h : History) (st : Stands s h) (n : ℕ) (kept : Call) (building : Building) (at : call_at n s.calls.calls ≡ Some kept) (is_build : kept.work ≡ BuildWork building) (is_built : IsUpTo building.upto building.build.state.at) where
  abbrev f : Found (CallStands s.columns s.epoch s.tree st.w h) n kept (moment h).calls
  f = paired-some (CallStands s.columns s.epoch s.tree st.w h) 0 s.calls.begun n s.calls.calls (moment h).calls kept st.calls at

  abbrev state : StateView
  state = building.build.state

  request : f.call.request ≡ BuildRequest state.spec
  request = f.related.request ∙ ap request_of is_build

  reads : reads_log (request_of kept.work) ≡ true
  reads = ap (λ (w : Work). reads_log (request_of w)) is_build

  -- the others stay as they are
  others : (x : Happening) → (moment (x ∷ h)).commits ≡ (moment h).commits → (moment (x ∷ h)).calls ≡ without_call f.call.number (moment h).calls → Paired (CallStands s.columns s.epoch s.tree st.w (x ∷ h)) 0 s.calls.begun (without n s.calls.calls) (moment (x ∷ h)).calls
  others x commits calls =
      subst (λ cs. Paired (CallStands s.columns s.epoch s.tree st.w (x ∷ h)) 0 s.calls.begun (without n s.calls.calls) cs) (sym (calls ∙ ap (λ m. without_call m (moment h).calls) f.numbered))
      (paired-without n (CallStands s.columns s.epoch s.tree st.w h) (CallStands s.columns s.epoch s.tree st.w (x ∷ h)) 0 s.calls.begun s.calls.calls (moment h).calls (λ k c i ne r. call_later s h x st.w commits k c r) st.calls)

  -- it owned nothing, and had reserved nothing
  owned_left : AllOwned s.tree st.w (without n s.calls.calls)
  owned_left number taken =
      let (k, i, o) = st.owned number taken in
      elim (eqb_tells k.0 n) [
        | inl p ↦ absurd (nobody number (subst (λ (w : Work). Among number (held w).owns) is_build (subst (λ (c : Call). Among number (held c.work).owns) (same_call k i p.1) o)))
        | inr p ↦ (k, among_left n s.calls.calls k i p.1, o)
      ]
    where
      nobody : (number : ℕ) → Among number [] → ⊥
      nobody number i = elim i [ ]

      same_call : (k : ℕ × Call) → Among k s.calls.calls → k.0 ≡ n → k.1 ≡ kept
      same_call k i e = (let both : ◌≡◌ {A = Option Call} (Some k.1) (Some kept) = sym (paired-one (CallStands s.columns s.epoch s.tree st.w h) 0 s.calls.begun s.calls.calls (moment h).calls st.calls k i) ∙ ap (λ (m : ℕ). call_at m s.calls.calls) e ∙ at in cc)

  reserved_left : s.log.reserved ≡ all_reserved (without n s.calls.calls)
  reserved_left =
      let all = st.reserved in
      let rest = total_without n kept reserves s.calls.calls at in
      let none : reserves kept ≡ 0 = ap (λ (w : Work). (held w).reserves) is_build in
      omega (arith, all, rest, none)

  building_left : (x : Happening) → Paired (CallStands s.columns s.epoch s.tree st.w (x ∷ h)) 0 s.calls.begun (without n s.calls.calls) (moment (x ∷ h)).calls → (s.views.building - 1 ≡ count_by (λ (call : OpenCall). is_build_request call.request) (moment (x ∷ h)).calls) × (0 < s.views.building)
  building_left x calls =
      let all = builds_before s h st in
      let rest = total_without n kept builds_of s.calls.calls at in
      let one : builds_of kept ≡ 1 = ap (λ (w : Work). cond (is_build_request (request_of w)) 1 0) is_build in
      let there = paired-builds (CallStands s.columns s.epoch s.tree st.w (x ∷ h)) (λ k c r. r.request) 0 s.calls.begun (without n s.calls.calls) (moment (x ∷ h)).calls calls in
      (omega (arith, all, rest, one, there), omega (arith, all, rest, one))

  -- it is held as often as before, but once less from where the build began
  held_left : (number : ℕ) → (times_held number s.log.holders ≡ times_held number (map (λ (v : StandingView). v.at) (moment h).views) + total (holds_from number) s.calls.calls) × (total (holds_from number) (without n s.calls.calls) + cond (kept.from == number) 1 0 ≡ total (holds_from number) s.calls.calls)
  held_left number =
      let rest = total_without n kept (holds_from number) s.calls.calls at in
      let one : ◌≡◌ {A = ℕ} (holds_from number kept) (cond (kept.from == number) 1 0) = ap (λ b. cond b (cond (kept.from == number) 1 0) 0) reads in
      (held_before s h st number, omega (arith, rest, one))

  -- what is true of it by the commits
  by_commits : (state.columns ≡ s.columns) × ReadsFrom s.columns (moment h).commits f.call.from building.upto state
  by_commits = subst (ReadsOf s.columns (moment h).commits f.call.from) is_build f.related.reads

  -- so what it has built is exact
  built_is : (upto : Option ℕ) → IsUpTo upto state.at → ReadsFrom s.columns (moment h).commits f.call.from upto state → (f.call.from ≤ state.at) × (state.at ≤ length (moment h).commits) × IsAfresh state (after s.columns (take state.at (moment h).commits))
  built_is None is reads = absurd is
  built_is (Some upto) is (since, up, within, leads) =
      let none : upto - state.at ≡ 0 = omega (arith, is) in (
        since,
        omega (arith, up, within),
        led_is_afresh (after s.columns (take state.at (moment h).commits)) state
            (subst (λ (m : ℕ). LeadsTo [] (after s.columns (take m (moment h).commits)) state) (sym is)
            (subst (λ (m : ℕ). LeadsTo (take m (drop state.at (deltas_of s.columns (moment h).commits))) (after s.columns (take upto (moment h).commits)) state) none leads)),
      )

  pub exact_now : (f.call.from ≤ state.at) × (state.at ≤ length (moment h).commits) × IsAfresh state (after s.columns (take state.at (moment h).commits))
  exact_now = built_is building.upto is_built by_commits.1

  pub opens_stands : (t : MachineView) (outcome : Outcome) → Opens s n kept state outcome t → Stands t (happening (step_event n) outcome state.at ∷ h)
  opens_stands t outcome o =
      subst (λ (u : MachineView). Stands u (happening (step_event n) outcome state.at ∷ h)) (sym o.is_next)
      (subst (λ (z : Outcome). Stands next (happening (step_event n) z state.at ∷ h)) (sym o.is_outcome)
      (changed_stands s h st x may (ap (λ m. m.commits) then) (ap (λ m. m.begun) then) (ap (λ m. m.epoch) then) (without n s.calls.calls) o.holders (with_view state s.views) calls (apart_without n s.calls.calls st.apart) owned_left reserved_left views o.sound
      (λ number.
      let more = pinning_counts state.at number s.log.holders in
      let less = unpinning_counts kept.from number (with_holder state.at s.log.holders) in
      let (before, rest) = held_left number in
      let are = ap (times_held number) o.are in
      let now = ap (λ (vs : List StandingView). times_held number (map (λ (v : StandingView). v.at) vs)) (views_are ∙ sym (opened-there s.views.views (s.views.built + 1, state))) ∙ opened_holds s.views.views (s.views.built + 1, state) number in
      let old = ap (λ (vs : List StandingView). times_held number (map (λ (v : StandingView). v.at) vs)) st.views.standing in
      omega (arith, more, less, before, rest, are, now, old)) (order_without n 0 s.calls.calls st.in_order)))
    where
      reply : Reply
      reply = record { pass = kept.pass; call = record { 0 = n }; from = kept.from; to = newest s.log; answer = Built (record { 0 = s.views.built + 1 }) }

      next : MachineView
      next = record { columns = s.columns; epoch = s.epoch; tree = s.tree; log = trimmed (record s.log { holders = o.holders }); calls = record s.calls { calls = without n s.calls.calls }; views = with_view state s.views }

      x : Happening
      x = happening (step_event n) (Done reply) state.at

      then : moment (x ∷ h) ≡ record (after_call_step (moment h) (Some f.call) (Done reply) state.at) { happened = length (x ∷ h) }
      then = ap (λ r. record (after_call_step (moment h) r (Done reply) state.at) { happened = length (x ∷ h) }) f.of

      calls : Paired (CallStands s.columns s.epoch s.tree st.w (x ∷ h)) 0 s.calls.begun (without n s.calls.calls) (moment (x ∷ h)).calls
      calls = others x (ap (λ m. m.commits) then) (ap (λ m. m.calls) then)

      one_view : view_built f.call.request (Built (record { 0 = s.views.built + 1 })) state.at ≡ standing (s.views.built + 1, state) ∷ []
      one_view = ap (λ (q : Request). view_built q (Built (record { 0 = s.views.built + 1 })) state.at) request

      views_are : (moment (x ∷ h)).views ≡ all_standing s.views.views ++ standing (s.views.built + 1, state) ∷ []
      views_are = ap (λ m. m.views) then ∙ ap (λ (vs : List StandingView). (moment h).views ++ vs) one_view ∙ ap (λ (vs : List StandingView). vs ++ standing (s.views.built + 1, state) ∷ []) st.views.standing

      views : ViewsStand s.columns (moment (x ∷ h)) (with_view state s.views)
      views =
          let (left, some) = building_left x calls in
          let one = ap (λ (vs : List StandingView). length vs) one_view in
          let built = st.views.built in
          let few = st.views.few in
          let longer = length-append s.views.views ((s.views.built + 1, state) ∷ []) in
          let is : IsExact s.columns (moment h) (s.views.built + 1, state) = record {
            reached = exact_now.1;
            state = record { spec = refl; columns = by_commits.0; at = refl; afresh = exact_now.2 };
          } in
          record {
            built = ap (λ (m : ℕ). m + 1) built ∙ sym (ap (λ m. m.built) then ∙ ap (λ (m : ℕ). (moment h).built + m) one);
            standing = views_are ∙ sym (opened-there s.views.views (s.views.built + 1, state));
            exact = all_exact_still s.columns (moment h) (moment (x ∷ h)) (inl (ap (λ m. m.commits) then)) (s.views.views ++ (s.views.built + 1, state) ∷ []) (exact_append s.columns (moment h) s.views.views (s.views.built + 1, state) st.views.exact is);
            rises = rises-append 0 s.views.built state s.views.views st.views.rises;
            building = left;
            few = omega (arith, some, few, longer);
          }

      may : MayStepAt s.columns h (call_of n (moment h).calls) (Done reply) state.at
      may = subst (λ z. MayStepAt s.columns h z (Done reply) state.at) (sym f.of) (record {
        pass = sym f.related.pass;
        number = sym f.numbered;
        from = sym f.related.from;
        to = st.commits;
        answer = subst (λ (q : Request). RightAnswer s.columns h f.call q (Built (record { 0 = s.views.built + 1 })) state.at) (sym request) (ap (λ (m : ℕ). m + 1) st.views.built, exact_now.0, exact_now.1);
      })

  pub opens_not_stands : (t : MachineView) (outcome : Outcome) → OpensNot s n kept outcome t → Stands t (happening (step_event n) outcome 0 ∷ h)
  opens_not_stands t outcome o =
      subst (λ (u : MachineView). Stands u (happening (step_event n) outcome 0 ∷ h)) (sym o.is_next)
      (subst (λ (z : Outcome). Stands next (happening (step_event n) z 0 ∷ h)) (sym o.is_outcome)
      (changed_stands s h st x may (ap (λ m. m.commits) then) (ap (λ m. m.begun) then) (ap (λ m. m.epoch) then) (without n s.calls.calls) o.holders (vacated true s.views) calls (apart_without n s.calls.calls st.apart) owned_left reserved_left views o.sound
      (λ number.
      let less = unpinning_counts kept.from number s.log.holders in
      let (before, rest) = held_left number in
      let are = ap (times_held number) o.are in
      let now = ap (λ m. times_held number (map (λ (v : StandingView). v.at) m.views)) then in
      omega (arith, less, before, rest, are, now)) (order_without n 0 s.calls.calls st.in_order)))
    where
      next : MachineView
      next = record { columns = s.columns; epoch = s.epoch; tree = s.tree; log = trimmed (record s.log { holders = o.holders }); calls = record s.calls { calls = without n s.calls.calls }; views = vacated true s.views }

      x : Happening
      x = happening (step_event n) (Refused o.refusal) 0

      then : moment (x ∷ h) ≡ record (after_call_step (moment h) (Some f.call) (Refused o.refusal) 0) { happened = length (x ∷ h) }
      then = ap (λ r. record (after_call_step (moment h) r (Refused o.refusal) 0) { happened = length (x ∷ h) }) f.of

      calls : Paired (CallStands s.columns s.epoch s.tree st.w (x ∷ h)) 0 s.calls.begun (without n s.calls.calls) (moment (x ∷ h)).calls
      calls = others x (ap (λ m. m.commits) then) (ap (λ m. m.calls) then)

      views : ViewsStand s.columns (moment (x ∷ h)) (vacated true s.views)
      views =
          let (left, some) = building_left x calls in
          let few = st.views.few in
          record {
            built = st.views.built ∙ sym (ap (λ m. m.built) then);
            standing = ap (λ m. m.views) then ∙ st.views.standing;
            exact = all_exact_still s.columns (moment h) (moment (x ∷ h)) (inl (ap (λ m. m.commits) then)) s.views.views st.views.exact;
            rises = st.views.rises;
            building = left;
            few = omega (arith, few);
          }

      why : (refusal : Refusal) → (refusal ≡ NoMemory) ⊎ ((refusal ≡ Spent) × (greatest_number ≤ s.views.built)) → MayEnd s.columns h f.call.began (BuildRequest state.spec) refusal
      why refusal (inl memory) = subst (MayEnd s.columns h f.call.began (BuildRequest state.spec)) (sym memory) tt
      why refusal (inr spent) = subst (MayEnd s.columns h f.call.began (BuildRequest state.spec)) (sym spent.0) (let built = st.views.built in let all = spent.1 in omega (arith, built, all))

      may : MayStepAt s.columns h (call_of n (moment h).calls) (Refused o.refusal) 0
      may = subst (λ z. MayStepAt s.columns h z (Refused o.refusal) 0) (sym f.of) (
        f.related.committed ∙ ap (λ (w : Work). (held w).committed) is_build,
        subst (λ (q : Request). MayEnd s.columns h f.call.began q o.refusal) (sym request) (why o.refusal o.why),
      )

pub ends-stand : (s t : MachineView) (n : ℕ) (outcome : Outcome) (h : History) → EndsBuild s n outcome t → Stands s h → (opens : ℕ) × Stands t (happening (step_event n) outcome opens ∷ h)
ends-stand s t n outcome h ends st = elim ends.comes [
  | inl opens ↦ (ends.building.build.state.at, opens_stands s h st n ends.call ends.building ends.is_open ends.is_build ends.is_built t outcome opens)
  | inr not_ ↦ (0, opens_not_stands s h st n ends.call ends.building ends.is_open ends.is_build ends.is_built t outcome not_)
]

-- a step leads from a machine at a history to a machine at the next one
pub steps-stand : (s t : MachineView) (n : ℕ) (outcome : Outcome) (h : History) → Steps s n outcome t → Stands s h → (opens : ℕ) × Stands t (happening (step_event n) outcome opens ∷ h)
steps-stand s t n outcome h (inl none) st = (
  0,
  subst (λ (o : Outcome). Stands t (happening (step_event n) o 0 ∷ h)) (sym none.1)
      (subst (λ (u : MachineView). Stands u (happening (step_event n) (Refused NoSuchCall) 0 ∷ h)) (sym none.2) (unknown s n h none.0 st)),
)
steps-stand s t n outcome h (inr (inl o)) st = (0, step_open s t n outcome h o st)
steps-stand s t n outcome h (inr (inr ends)) st = ends-stand s t n outcome h ends st

pub steps-columns : (s t : MachineView) (n : ℕ) (outcome : Outcome) → Steps s n outcome t → t.columns ≡ s.columns
steps-columns s t n outcome (inl (none, refused, same)) = ap (λ (m : MachineView). m.columns) same
steps-columns s t n outcome (inr (inl open_)) = ap (λ (m : MachineView). m.columns) open_.is_next
steps-columns s t n outcome (inr (inr ends)) = elim ends.comes [
  | inl opens ↦ ap (λ (m : MachineView). m.columns) opens.is_next
  | inr not_ ↦ ap (λ (m : MachineView). m.columns) not_.is_next
]
