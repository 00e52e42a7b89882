-- A step of one call leads from a machine at a history to a machine at the next one.
use Rattle.std.proofs.Common.{ℕ, ◌≡◌, ◌≢◌, ◌≤◌, ◌+◌, ◌⊎◌, ◌↔◌, inl, inr, List, [], ◌∷◌, ◌++◌, length, Option, Some, refl, sym, ap, subst, ◌∙◌, arith, drop, map}
use Rattle.std.specs.FinMap.{get, len}
use Rattle.std.proofs.lemmas.List.{length-append, drop-append-le}
use Rattle.mt_types.specs.Rows.{Rows, after, after_change}
use Rattle.mt_types.specs.declared.row.Row.{Row}
use Rattle.mt_types.specs.declared.row.Delta.{Delta}
use Rattle.mt_types.specs.declared.row.Change.{Change}
use Rattle.mt_types.specs.declared.event.Event.{Event}
use Rattle.mt_types.specs.declared.event.Event.TheVariants.{Step}
use Rattle.mt_types.specs.declared.event.Outcome.{Outcome}
use Rattle.mt_types.specs.declared.event.Outcome.TheVariants.{Commit}
use Rattle.mt_promise.specs.History.{History, Happening, Moment, OpenCall, StandingView, happening, moment, rows, call_of, without_call, replace_call, after_step, after_call_step, change_of}
use Rattle.mt_promise.specs.Legal.{MayStepAt, MayStep, MayCommit}
use Rattle.mt_promise.proofs.HistoryLemmas.{after-append}
use Rattle.mt_slice.specs.Place.{AreBytes, place_of}
use Rattle.mt_slice.proofs.Canonical.{same_from_place_of}
use Rattle.mt_commit.specs.Log.{LogView, IsLog, counted, effect_of, newest, slowest, with_delta, trimmed}
use Rattle.mt_commit.specs.Laws.{times_held}
use Rattle.mt_commit.specs.Deltas.{with_row}
use Rattle.mt_arena.specs.Arena.{ArenaView}
use Rattle.mt_chart.specs.Tree.{Among}
use Rattle.mt_chart.proofs.Basics.{same_number}
use Rattle.mt_tree.specs.Seen.{arena_seen, HasRow}
use Rattle.mt_index.specs.declared.calls.Call.{Call}
use Rattle.mt_works.specs.declared.work.Work.{Work}
use Rattle.mt_steps.specs.World.{IsTaken, World, IsSame, GoesBy, NotAmong}
use Rattle.mt_steps.specs.Step.{IsQuiet, Changes, bounds}
use Rattle.mt_works.specs.Works.{request_of, held, IsTrue}
use Rattle.mt_commit.specs.Logged.{key_of, delta_made, deltas_of}
use Rattle.mt_index.specs.Paired.{Paired}
use Rattle.mt_index.specs.Calls.{call_at, with_changed, with_work, without, AreApart, total, all_reserved, BeganInOrder}
use Rattle.mt_index.specs.Stands.{AllOwned, MachineView, CallStands, WasBlocked, HasRowsOf, IsPast, Stands, holding}
use Rattle.mt_commit.proofs.DeltaLemmas.{delta_is, deltas_of-append, deltas_of-length}
use Rattle.mt_commit.proofs.RowLemmas.{len-with_row}
use Rattle.mt_index.proofs.LogStands.{holds_from, all-held, slowest_is, trims, was_later, blocked_now}
use Rattle.mt_view.specs.Views.{ViewsView}
use Rattle.mt_index.specs.Viewing.{ViewsStand, ReadsOf}
use Rattle.mt_index.proofs.PastLemmas.{Grows, past_more}
use Rattle.mt_index.proofs.Reading.{reads_still}
use Rattle.mt_index.proofs.ViewStands.{all_exact_still, builds_of, paired-builds}
use Rattle.mt_index.proofs.NumberLemmas.{Entries}
use Rattle.mt_index.proofs.PairedLemmas.{Others, Found, paired-change, paired-without, paired-each, paired-one}
use Rattle.mt_index.proofs.ListLemmas.{among_kept, among_new, among_left, among_at, among_changed, among_without, order_changed}
use Rattle.mt_works.proofs.WorkLemmas.{stays, owned_taken}
use Rattle.mt_index.proofs.RightStands.{row_is, put_get, HasKeys}

abbrev pub step_event : ℕ → Event
step_event n = Step (record { 0 = n })

-- two options that hold the same rows are one
-- ---- the list of calls: one step of one call leaves what is true of the others, and keeps what they own apart
module _ {commit : Option ℕ} (s : MachineView) (h : History) (n : ℕ) (kept : Call) (st : Stands s h) (at : call_at n s.calls.calls ≡ Some kept) (f : Found (CallStands s.columns s.epoch s.tree st.w h) n kept (moment h).calls)
    (after_tree : ArenaView) (work : Work) (owns : List ℕ) (Then : World → Type 0) (goes : GoesBy commit s.epoch s.tree after_tree st.w (held kept.work).owns owns Then) where
  abbrev before : ℕ × Call → OpenCall → Type 0
  before = CallStands s.columns s.epoch s.tree st.w h

  pub others_left : (k : ℕ × Call) → Among k s.calls.calls → k.0 ≢ n → (c : OpenCall) → before k c → (number : ℕ) → Among number (held k.1.work).owns → IsSame s.tree after_tree st.w goes.next number × NotAmong number owns
  others_left k i ne c r number owned =
      goes.leaves number (owned_taken s.columns k.1.epoch c.moves r.past s.tree st.w k.1.work r.true number owned)
      (λ mine. st.apart (n, kept) k (among_at n kept s.calls.calls at) i (λ e. ne (sym e)) number mine owned)

  pub others_stand : (x : Happening) → HasRowsOf s.columns after_tree (x ∷ h) → HasKeys s.columns (x ∷ h) → Grows s.columns (moment h) (moment (x ∷ h)) → Others n s.calls.calls before (CallStands s.columns s.epoch after_tree goes.next (x ∷ h))
  others_stand x content keys grows k c i ne r = record {
    pass = r.pass;
    request = r.request;
    from = r.from;
    began = let b = r.began in omega arith;
    epoch = r.epoch;
    committed = r.committed;
    blocked = was_later c.began x h (held k.1.work).blocked r.blocked;
    past = arena_seen s.tree ∷ r.past;
    passed = let b = r.began in past_more s.columns c.began c.from x h after_tree (arena_seen s.tree ∷ r.past) (omega arith) content keys grows r.passed;
    true = stays s.tree after_tree st.w goes.next s.columns k.1.epoch c.moves r.past (goes.evolves k.1.epoch r.epoch) s.epoch goes.world goes.age.borders k.1.work (λ number owned. (others_left k i ne c r number owned).0) r.true;
    reads = reads_still s.columns (moment h) (moment (x ∷ h)) grows c.from k.1.work r.reads;
  }

  each : (k : ℕ × Call) → Among k s.calls.calls → (c : OpenCall) × before k c
  each k i = paired-each before 0 s.calls.begun s.calls.calls (moment h).calls st.calls k i

  new_apart : (k : ℕ × Call) → Among k s.calls.calls → k.0 ≢ n → (number : ℕ) → Among number (held k.1.work).owns → NotAmong number owns
  new_apart k i ne number owned = let (c, r) = each k i in (others_left k i ne c r number owned).1

  pub apart_changed : (held work).owns ≡ owns → AreApart (with_changed (with_work work) n s.calls.calls)
  apart_changed is one other i j ne number owned =
      elim (among_changed n kept (with_work work) s.calls.calls at one i) [
        | inl old_one ↦ elim (among_changed n kept (with_work work) s.calls.calls at other j) [
          | inl old_other ↦ st.apart one other old_one old_other ne number owned
          | inr new_other ↦ λ mine. new_apart one old_one (λ e. ne (e ∙ sym (ap (λ (k : ℕ × Call). k.0) new_other))) number owned
              (subst (λ (l : List ℕ). Among number l) (ap (λ (k : ℕ × Call). (held k.1.work).owns) new_other ∙ is) mine)
        ]
        | inr new_one ↦ elim (among_changed n kept (with_work work) s.calls.calls at other j) [
          | inl old_other ↦ λ mine. new_apart other old_other (λ e. ne (ap (λ (k : ℕ × Call). k.0) new_one ∙ sym e)) number mine
              (subst (λ (l : List ℕ). Among number l) (ap (λ (k : ℕ × Call). (held k.1.work).owns) new_one ∙ is) owned)
          | inr new_other ↦ absurd (ne (ap (λ (k : ℕ × Call). k.0) new_one ∙ sym (ap (λ (k : ℕ × Call). k.0) new_other)))
        ]
      ]

  -- what was taken and is not this call's is still some other call's
  still_owned : (number : ℕ) → IsTaken s.tree st.w number → NotAmong number (held kept.work).owns → (k : ℕ × Call) × Among k s.calls.calls × (k.0 ≢ n) × Among number (held k.1.work).owns
  still_owned number taken out =
      let (k, i, o) = st.owned number taken in
      elim (same_number k.0 n) [
        | inl e ↦ absurd (let one = paired-one before 0 s.calls.begun s.calls.calls (moment h).calls st.calls k i in
            let both : Some k.1 ≡ Some kept = sym one ∙ (ap (λ (m : ℕ). call_at m s.calls.calls) e ∙ at) in
            let same : k.1 ≡ kept = cc in
            out (subst (λ (c : Call). Among number (held c.work).owns) same o))
        | inr ne ↦ (k, i, ne, o)
      ]

  pub owned_on : (held work).owns ≡ owns → AllOwned after_tree goes.next (with_changed (with_work work) n s.calls.calls)
  owned_on is number taken = elim (goes.takes number taken) [
    | inl mine ↦ ((n, with_work work kept), among_new n kept (with_work work) s.calls.calls at, subst (λ (l : List ℕ). Among number l) (sym is) mine)
    | inr old ↦ (let (k, i, ne, o) = still_owned number old.0 old.1 in (k, among_kept n (with_work work) s.calls.calls k i ne, o))
  ]

  pub owned_end : owns ≡ [] → AllOwned after_tree goes.next (without n s.calls.calls)
  owned_end none number taken = elim (goes.takes number taken) [
    | inl mine ↦ absurd (nobody number (subst (λ (l : List ℕ). Among number l) none mine))
    | inr old ↦ (let (k, i, ne, o) = still_owned number old.0 old.1 in (k, among_left n s.calls.calls k i ne, o))
  ]
    where
      nobody : (number : ℕ) → Among number [] → ⊥
      nobody number i = elim i [ ]

-- what is left apart where a call ends
pub apart_without : (n : ℕ) (ks : Entries) → AreApart ks → AreApart (without n ks)
apart_without n ks apart one other i j ne number owned = apart one other (among_without n ks one i) (among_without n ks other j) ne number owned

-- ---- who holds the log
-- as the machine's calls tell, while the views are those of the moment
abbrev pub HoldersAre : MachineView → History → List ℕ → Entries → Type 0
HoldersAre s h holders entries = (number : ℕ) → times_held number holders ≡ times_held number (map (λ (v : StandingView). v.at) (moment h).views) + total (holds_from number) entries

pub held_before : (s : MachineView) (h : History) → Stands s h → HoldersAre s h s.log.holders s.calls.calls
held_before s h st number =
    st.held number ∙ all-held (CallStands s.columns s.epoch s.tree st.w h) (λ k c r. r.from) (λ k c r. r.request) number 0 s.calls.begun s.calls.calls (moment h) st.calls

now_held : (s : MachineView) (h : History) (x : Happening) (holders : List ℕ) (entries : Entries) (next : World) (after_tree : ArenaView) → Paired (CallStands s.columns s.epoch after_tree next (x ∷ h)) 0 s.calls.begun entries (moment (x ∷ h)).calls → (moment (x ∷ h)).views ≡ (moment h).views
    → HoldersAre s h holders entries → (number : ℕ) → times_held number holders ≡ times_held number (holding (moment (x ∷ h)))
now_held s h x holders entries next after_tree calls views held number =
    held number
    ∙ ap (λ (vs : List StandingView). times_held number (map (λ (v : StandingView). v.at) vs) + total (holds_from number) entries) (sym views)
    ∙ sym (all-held (CallStands s.columns s.epoch after_tree next (x ∷ h)) (λ k c r. r.from) (λ k c r. r.request) number 0 s.calls.begun entries (moment (x ∷ h)) calls)

-- ---- the machine after a step of a call
abbrev pub next_seen : MachineView → ArenaView → LogView → ViewsView → Entries → MachineView
next_seen s after left views ks = record { columns = s.columns; epoch = s.epoch; tree = after; log = left; calls = record s.calls { calls = ks }; views = views }

-- the views after a step: those before it, with `building` places for builds
abbrev pub with_building : ℕ → ViewsView → ViewsView
with_building building views = record views { building = building }

-- the places that builds keep are as many as the machine's calls tell
pub now_views : (s : MachineView) (h : History) (x : Happening) (building : ℕ) (entries : Entries) (next : World) (after_tree : ArenaView) → Paired (CallStands s.columns s.epoch after_tree next (x ∷ h)) 0 s.calls.begun entries (moment (x ∷ h)).calls
    → (moment (x ∷ h)).views ≡ (moment h).views → (moment (x ∷ h)).built ≡ (moment h).built → Grows s.columns (moment h) (moment (x ∷ h)) → building ≡ total builds_of entries → building ≤ s.views.building → ViewsStand s.columns (moment h) s.views → ViewsStand s.columns (moment (x ∷ h)) (with_building building s.views)
now_views s h x building entries next after_tree calls views built grows counted fewer stand = record {
  built = stand.built ∙ sym built;
  standing = views ∙ stand.standing;
  exact = all_exact_still s.columns (moment h) (moment (x ∷ h)) grows s.views.views stand.exact;
  rises = stand.rises;
  building = counted ∙ sym (paired-builds (CallStands s.columns s.epoch after_tree next (x ∷ h)) (λ k c r. r.request) 0 s.calls.begun entries (moment (x ∷ h)).calls calls);
  few = let f = stand.few in omega (arith, f, fewer);
}

-- for how many builds places are kept
pub builds_before : (s : MachineView) (h : History) (st : Stands s h) → s.views.building ≡ total builds_of s.calls.calls
builds_before s h st = st.views.building ∙ paired-builds (CallStands s.columns s.epoch s.tree st.w h) (λ k c r. r.request) 0 s.calls.begun s.calls.calls (moment h).calls st.calls

module _ {commit : Option ℕ} (s : MachineView) (h : History) (n : ℕ) (kept : Call) (st : Stands s h) (at : call_at n s.calls.calls ≡ Some kept) (f : Found (CallStands s.columns s.epoch s.tree st.w h) n kept (moment h).calls)
    (after_tree : ArenaView) (left : LogView) (work : Work) (owns : List ℕ) (Then : World → Type 0) (goes : GoesBy commit s.epoch s.tree after_tree st.w (held kept.work).owns owns Then)
    (request : request_of work ≡ request_of kept.work) (kept_bounds : bounds left ≡ bounds s.log) where
  abbrev ks : Entries
  ks = with_changed (with_work work) n s.calls.calls

  abbrev R : History → ℕ × Call → OpenCall → Type 0
  R history = CallStands s.columns s.epoch after_tree goes.next history

  -- what the step makes of the history
  then_is : (o : Outcome) (m : Moment) → after_step (moment h) f.call o 0 ≡ m → after_call_step (moment h) (call_of n (moment h).calls) o 0 ≡ m
  then_is o m e = ap (λ r. after_call_step (moment h) r o 0) f.of ∙ e

  -- the calls, if this one continues
  pub calls_on : (o : Outcome) (new : OpenCall) (commits : List Change) → after_step (moment h) f.call o 0 ≡ record (moment h) { commits = commits; calls = replace_call new (moment h).calls }
      → new.number ≡ f.call.number → new.pass ≡ f.call.pass → new.request ≡ f.call.request → new.began ≡ f.call.began → new.from ≡ f.call.from → new.committed ≡ (held work).committed
      → ((held work).blocked ≡ (held kept.work).blocked) ⊎ ((held work).blocked ≡ Some (slowest s.log))
      → HasRowsOf s.columns after_tree (happening (step_event n) o 0 ∷ h) → HasKeys s.columns (happening (step_event n) o 0 ∷ h) → Grows s.columns (moment h) (moment (happening (step_event n) o 0 ∷ h))
      → IsTrue s.columns work kept.epoch new.moves (arena_seen s.tree ∷ f.related.past) after_tree goes.next → ReadsOf s.columns (moment h).commits f.call.from work
      → Paired (R (happening (step_event n) o 0 ∷ h)) 0 s.calls.begun ks (moment (happening (step_event n) o 0 ∷ h)).calls
  calls_on o new commits makes number pass asked began from committed blocks content keys grows truth reads =
      let x : Happening = happening (step_event n) o 0 in
      let r = f.related in
      subst (λ cs. Paired (R (x ∷ h)) 0 s.calls.begun ks cs) (sym (ap (λ m. m.calls) (then_is o _ makes)))
      (paired-change (with_work work) n (CallStands s.columns s.epoch s.tree st.w h) (R (x ∷ h)) 0 s.calls.begun s.calls.calls (moment h).calls kept new (others_stand s h n kept st at f after_tree work owns Then goes x content keys grows) st.calls at (number ∙ f.numbered)
      (record {
        pass = pass ∙ r.pass;
        request = asked ∙ r.request ∙ sym request;
        from = from ∙ r.from;
        began = let b = r.began in omega (arith, b, began);
        epoch = r.epoch;
        committed = committed;
        blocked = subst (λ (m : ℕ). WasBlocked m (x ∷ h) (held work).blocked) (sym began) (elim blocks [
          | inl same ↦ subst (λ (b : Option ℕ). WasBlocked f.call.began (x ∷ h) b) (sym same) (was_later f.call.began x h (held kept.work).blocked r.blocked)
          | inr now ↦ subst (λ (b : Option ℕ). WasBlocked f.call.began (x ∷ h) b) (sym now) (blocked_now f.call.began x h s.log (slowest_is s.log (moment h) st.commits st.held) r.began)
        ]);
        past = arena_seen s.tree ∷ r.past;
        passed = let b = r.began in past_more s.columns new.began new.from x h after_tree (arena_seen s.tree ∷ r.past) (omega (arith, b, began)) content keys grows
            (subst (λ (m : ℕ). IsPast s.columns new.began m h (arena_seen s.tree ∷ r.past)) (sym from) (subst (λ (m : ℕ). IsPast s.columns m f.call.from h (arena_seen s.tree ∷ r.past)) (sym began) r.passed));
        true = truth;
        reads = subst (λ (m : ℕ). ReadsOf s.columns (moment (x ∷ h)).commits m work) (sym from) (reads_still s.columns (moment h) (moment (x ∷ h)) grows f.call.from work reads);
      }))

  -- the calls, if this one ends
  pub calls_end : (o : Outcome) → (after_step (moment h) f.call o 0).calls ≡ without_call f.call.number (moment h).calls → HasRowsOf s.columns after_tree (happening (step_event n) o 0 ∷ h) → HasKeys s.columns (happening (step_event n) o 0 ∷ h) → Grows s.columns (moment h) (moment (happening (step_event n) o 0 ∷ h))
      → Paired (R (happening (step_event n) o 0 ∷ h)) 0 s.calls.begun (without n s.calls.calls) (moment (happening (step_event n) o 0 ∷ h)).calls
  calls_end o makes content keys grows =
      let x : Happening = happening (step_event n) o 0 in
      subst (λ cs. Paired (R (x ∷ h)) 0 s.calls.begun (without n s.calls.calls) cs) (sym (ap (λ m. m.calls) (then_is o _ refl) ∙ makes ∙ ap (λ m. without_call m (moment h).calls) f.numbered))
      (paired-without n (CallStands s.columns s.epoch s.tree st.w h) (R (x ∷ h)) 0 s.calls.begun s.calls.calls (moment h).calls (others_stand s h n kept st at f after_tree work owns Then goes x content keys grows) st.calls)

  -- a step that commits nothing
  module _ (quiet : IsQuiet s.tree after_tree s.log left) where
    same_rows : (o : Outcome) → (after_step (moment h) f.call o 0).commits ≡ (moment h).commits → rows s.columns (moment (happening (step_event n) o 0 ∷ h)) ≡ rows s.columns (moment h)
    same_rows o commits = ap (λ (cs : List Change). after s.columns cs) (ap (λ m. m.commits) (then_is o _ refl) ∙ commits)

    -- the rows are as they were
    pub content_still : (o : Outcome) → (after_step (moment h) f.call o 0).commits ≡ (moment h).commits → HasRowsOf s.columns after_tree (happening (step_event n) o 0 ∷ h)
    content_still o commits key bytes row = (
      (λ has. ap (λ (rs : Rows). get rs key) (same_rows o commits) ∙ (st.content key bytes row).0 ((quiet.content (place_of key) row).0 has)),
      (λ e. (quiet.content (place_of key) row).1 ((st.content key bytes row).1 (sym (ap (λ (rs : Rows). get rs key) (same_rows o commits)) ∙ e))),
    )

    pub keys_still : (o : Outcome) → (after_step (moment h) f.call o 0).commits ≡ (moment h).commits → HasKeys s.columns (happening (step_event n) o 0 ∷ h)
    keys_still o commits key row is = st.keys key row (sym (ap (λ (rs : Rows). get rs key) (same_rows o commits)) ∙ is)

    pub grows_still : (o : Outcome) → (after_step (moment h) f.call o 0).commits ≡ (moment h).commits → Grows s.columns (moment h) (moment (happening (step_event n) o 0 ∷ h))
    grows_still o commits = inl (ap (λ m. m.commits) (then_is o _ refl) ∙ commits)

    pub still : (o : Outcome) (entries : Entries) (holders : List ℕ) (building : ℕ) → MayStep s.columns h f.call o 0 → (after_step (moment h) f.call o 0).commits ≡ (moment h).commits → (after_step (moment h) f.call o 0).begun ≡ (moment h).begun
        → (after_step (moment h) f.call o 0).views ≡ (moment h).views → (after_step (moment h) f.call o 0).built ≡ (moment h).built
        → Paired (R (happening (step_event n) o 0 ∷ h)) 0 s.calls.begun entries (moment (happening (step_event n) o 0 ∷ h)).calls → AreApart entries → AllOwned after_tree goes.next entries → left.reserved ≡ all_reserved entries
        → IsLog (record left { holders = holders }) → HoldersAre s h holders entries → building ≡ total builds_of entries → building ≤ s.views.building → (after_step (moment h) f.call o 0).epoch ≡ (moment h).epoch → BeganInOrder 0 entries
        → Stands (next_seen s after_tree (trimmed (record left { holders = holders })) (with_building building s.views) entries) (happening (step_event n) o 0 ∷ h)
    still o entries holders building may commits begun views built calls apart owned reserved sound held counted fewer epoch in_order =
        let x : Happening = happening (step_event n) o 0 in
        let then = then_is o _ refl in
        let same : (moment (x ∷ h)).commits ≡ (moment h).commits = ap (λ m. m.commits) then ∙ commits in
        let alike : rows s.columns (moment (x ∷ h)) ≡ rows s.columns (moment h) = ap (λ (cs : List Change). after s.columns cs) same in
        let log = trims s.columns (record left { holders = holders }) (moment (x ∷ h)) sound (record {
          commits = ap (λ (m : ℕ). m + length left.deltas) quiet.trimmed ∙ ap (λ (ds : List Delta). s.log.held_after + length ds) quiet.deltas ∙ st.commits ∙ ap length (sym same);
          logged = quiet.deltas ∙ st.logged ∙ ap (λ (m : ℕ). drop m (deltas_of s.columns (moment h).commits)) (sym quiet.trimmed) ∙ ap (λ (cs : List Change). drop left.held_after (deltas_of s.columns cs)) (sym same);
          rows = quiet.rows ∙ st.counted ∙ ap len (sym alike);
          held = now_held s h x holders entries goes.next after_tree calls (ap (λ m. m.views) then ∙ views) held;
        }) in
        record {
          legal = (st.legal, subst (λ z. MayStepAt s.columns h z o 0) (sym f.of) may);
          few = st.few;
          commits = log.commits;
          begun = st.begun ∙ sym (ap (λ m. m.begun) then ∙ begun);
          epoch = st.epoch ∙ sym (ap (λ m. m.epoch) then ∙ epoch);
          in_order = in_order;
          w = goes.next;
          world = goes.world;
          content = content_still o commits;
          keys = λ key row is. st.keys key row (sym (ap (λ (rs : Rows). get rs key) alike) ∙ is);
          logged = log.logged;
          trimmed = log.trimmed;
          counted = log.rows;
          held = log.held;
          views = now_views s h x building entries goes.next after_tree calls (ap (λ m. m.views) then ∙ views) (ap (λ m. m.built) then ∙ built) (inl same) counted fewer st.views;
          calls = calls;
          apart = apart;
          owned = owned;
          reserved = reserved;
        }

  -- a step that commits
  module _ (key : List ℕ) (before then : Option Row) (number : ℕ) (changes : Changes s.tree after_tree s.log left key before then number) (change : Change) (of_key : key_of change ≡ key) (asked : change_of f.call.request ≡ change ∷ [])
      (means : get (rows s.columns (moment h)) key ≡ before → after_change s.columns number change (rows s.columns (moment h)) ≡ with_row key then (rows s.columns (moment h)))
      (may : number ≡ length (moment h).commits + 1 → get (rows s.columns (moment h)) key ≡ before → MayCommit s.columns h f.call f.call.request number) where
    abbrev old : Rows
    old = rows s.columns (moment h)

    abbrev delta : Delta
    delta = record { number = number; key = key; before = before; after = then }

    abbrev happened : Happening
    happened = happening (step_event n) (Commit number) 0

    stood : get old key ≡ before
    stood = row_is s h st key before changes.bytes changes.stood

    next_number : number ≡ length (moment h).commits + 1
    next_number = changes.is_next ∙ ap (λ (m : ℕ). m + 1) st.commits

    commits_are : (moment (happened ∷ h)).commits ≡ (moment h).commits ++ change ∷ []
    commits_are = ap (λ m. m.commits) (then_is (Commit number) _ refl) ∙ ap (λ (cs : List Change). (moment h).commits ++ cs) asked

    rows_are : rows s.columns (moment (happened ∷ h)) ≡ with_row key then old
    rows_are = ap (after s.columns) commits_are ∙ after-append s.columns (moment h).commits change ∙ (ap (λ (m : ℕ). after_change s.columns m change old) (sym next_number) ∙ means stood)

    content_is : (q : List ℕ) → AreBytes q → (r : Row) → HasRow after_tree q r ↔ (get (with_row key then old) q ≡ Some r)
    content_is q bytes r = elim (put_get old key q then) [
      | inl (same, found) ↦ (
        (λ has. elim ((changes.content (place_of q) r).0 has) [
          | inl (at_key, is) ↦ found ∙ is
          | inr (there, apart) ↦ absurd (apart (ap place_of same))
        ]),
        (λ e. (changes.content (place_of q) r).1 (inl (ap place_of same, sym found ∙ e))),
      )
      | inr (differ, found) ↦ (
        (λ has. elim ((changes.content (place_of q) r).0 has) [
          | inl (at_key, is) ↦ absurd (differ (same_from_place_of q key bytes changes.bytes at_key))
          | inr (there, apart) ↦ found ∙ (st.content q bytes r).0 there
        ]),
        (λ e. (changes.content (place_of q) r).1 (inr ((st.content q bytes r).1 (sym found ∙ e), λ at_key. differ (same_from_place_of q key bytes changes.bytes at_key)))),
      )
    ]

    content_then : HasRowsOf s.columns after_tree (happened ∷ h)
    content_then q bytes r = subst (λ (rs : Rows). HasRow after_tree q r ↔ (get rs q ≡ Some r)) (sym rows_are) (content_is q bytes r)

    keys_then : (q : List ℕ) (r : Row) → get (rows s.columns (moment (happened ∷ h))) q ≡ Some r → AreBytes q
    keys_then q r is = elim (put_get old key q then) [
      | inl (same, found) ↦ subst AreBytes (sym same) changes.bytes
      | inr (differ, found) ↦ st.keys q r (sym found ∙ (sym (ap (λ (rs : Rows). get rs q) rows_are) ∙ is))
    ]

    reaches : s.log.held_after ≤ length (deltas_of s.columns (moment h).commits)
    reaches =
        let as_many = deltas_of-length s.columns (moment h).commits in
        let whole = st.commits in
        omega (arith, as_many, whole)

    -- the log's new delta is that of the change
    made_now : deltas_of s.columns (moment h).commits ++ delta ∷ [] ≡ deltas_of s.columns (moment (happened ∷ h)).commits
    made_now =
        ap (λ (d : Delta). deltas_of s.columns (moment h).commits ++ d ∷ []) (delta_is s.columns number change old key before then of_key stood (means stood))
        ∙ ap (λ (m : ℕ). deltas_of s.columns (moment h).commits ++ delta_made s.columns m change old ∷ []) next_number
        ∙ sym (deltas_of-append s.columns (moment h).commits change)
        ∙ ap (deltas_of s.columns) (sym commits_are)

    logged_then : s.log.deltas ++ delta ∷ [] ≡ drop s.log.held_after (deltas_of s.columns (moment (happened ∷ h)).commits)
    logged_then =
        ap (λ (ds : List Delta). ds ++ delta ∷ []) st.logged
        ∙ sym (drop-append-le s.log.held_after (deltas_of s.columns (moment h).commits) (delta ∷ []) reaches)
        ∙ ap (drop s.log.held_after) (made_now)

    -- and so is its number of rows
    counted_then : counted (effect_of before then) s.log.rows ≡ len (rows s.columns (moment (happened ∷ h)))
    counted_then = ap (counted (effect_of before then)) st.counted ∙ sym (len-with_row key before then old stood) ∙ ap len (sym rows_are)

    grows : Grows s.columns (moment h) (moment (happened ∷ h))
    grows = inr (record { change = change; commits = commits_are; delta = delta; deltas = sym made_now; made = rows_are })

    pub commit_stands : (held work).owns ≡ owns → (held work).committed ≡ Some number → ((held work).blocked ≡ (held kept.work).blocked) ⊎ ((held work).blocked ≡ Some (slowest s.log))
        → IsTrue s.columns work kept.epoch 0 (arena_seen s.tree ∷ f.related.past) after_tree goes.next → ReadsOf s.columns (moment h).commits f.call.from work → left.reserved ≡ all_reserved ks
        → IsLog left → HoldersAre s h left.holders ks → s.views.building ≡ total builds_of ks
        → Stands (next_seen s after_tree (trimmed left) s.views ks) (happened ∷ h)
    commit_stands same_owns committed blocks truth reads reserved sound held building_is =
        let longer : length (s.log.deltas ++ delta ∷ []) ≡ length s.log.deltas + 1 = length-append s.log.deltas (delta ∷ []) in
        let longer_commits : length ((moment h).commits ++ change ∷ []) ≡ length (moment h).commits + 1 = length-append (moment h).commits (change ∷ []) in
        let as_many = st.commits in
        let counted : newest (with_delta s.log delta) ≡ length ((moment h).commits ++ change ∷ []) = omega (arith, longer, longer_commits, as_many) in
        let calls = calls_on (Commit number) (record f.call { committed = Some number; moves = 0 }) _ refl refl refl refl refl refl (sym committed) blocks content_then keys_then grows truth reads in
        let then = then_is (Commit number) _ refl in
        let log = trims s.columns left (moment (happened ∷ h)) sound (record {
          commits = ap newest changes.logged ∙ counted ∙ sym (ap length commits_are);
          logged = ap (λ (l : LogView). l.deltas) changes.logged ∙ logged_then ∙ ap (λ (l : LogView). drop l.held_after (deltas_of s.columns (moment (happened ∷ h)).commits)) (sym changes.logged);
          rows = ap (λ (l : LogView). l.rows) changes.logged ∙ counted_then;
          held = now_held s h happened left.holders ks goes.next after_tree calls (ap (λ m. m.views) then) held;
        }) in
        record {
          legal = (
            st.legal,
            subst (λ z. MayStepAt s.columns h z (Commit number) 0) (sym f.of) (may next_number stood),
          );
          few = st.few;
          commits = log.commits;
          begun = st.begun ∙ sym (ap (λ m. m.begun) then);
          epoch = st.epoch ∙ sym (ap (λ m. m.epoch) then);
          in_order = order_changed work n 0 s.calls.calls st.in_order;
          w = goes.next;
          world = goes.world;
          content = content_then;
          keys = keys_then;
          logged = log.logged;
          trimmed = log.trimmed;
          counted = log.rows;
          held = log.held;
          views = now_views s h happened s.views.building ks goes.next after_tree calls (ap (λ m. m.views) then) (ap (λ m. m.built) then) grows building_is (omega arith) st.views;
          calls = calls;
          apart = apart_changed s h n kept st at f after_tree work owns Then goes same_owns;
          owned = owned_on s h n kept st at f after_tree work owns Then goes same_owns;
          reserved = reserved;
        }
