-- A call of an index of one caller, alone, from its begin through its steps.
use Rattle.std.proofs.Common.{ℕ, ◌≡◌, ◌<◌, ◌≤◌, Bool, false, List, [], ◌∷◌, ◌++◌, length, Option, Some, None, refl, sym, ap, subst, ◌∙◌, arith, append-nil}
use Rattle.std.specs.Prelude.{◌+◌, not, if◌then◌else◌, map, filter, All}
use Rattle.std.specs.Option.{option_map}
use Rattle.std.proofs.lemmas.Bool.{eq-eqb}
use Rattle.std.proofs.lemmas.List.Elements.{All-head, All-tail, All-nil}
use Rattle.mt_types.specs.Numbers.{greatest_number, least}
use Rattle.mt_types.specs.declared.numbers.PassNo.{PassNo}
use Rattle.mt_types.specs.declared.numbers.CallNo.{CallNo}
use Rattle.mt_types.specs.declared.row.Change.{Change}
use Rattle.mt_types.specs.declared.refusal.Refusal.{Refusal}
use Rattle.mt_types.specs.declared.refusal.Refusal.TheVariants.{NoMemory, ArenaFull, FeedFull, Spent, OtherVersion}
use Rattle.mt_types.specs.declared.event.Event.{Event}
use Rattle.mt_types.specs.declared.event.Event.TheVariants.{Begin, Step}
use Rattle.mt_types.specs.declared.event.Outcome.{Outcome}
use Rattle.mt_types.specs.declared.event.Outcome.TheVariants.{Call as Called, Moved, Again, Commit, Refused}
use Rattle.mt_types.specs.declared.event.Request.{Request}
use Rattle.mt_types.specs.declared.event.Request.TheVariants.{Put, PutIf, Remove, Build}
use Rattle.mt_promise.specs.History.{History, happening, Moment, OpenCall, StandingView, moment, call_of, new_call, replace_call, after_event, after_call_step, after_step, Sometime, Throughout}
use Rattle.mt_promise.specs.Legal.{MayHappen, MayStepAt, MayEnd, reads_log, held_from}
use Rattle.mt_promise.specs.Alone.{GoesOnBy, RunsAlone}
use Rattle.mt_promise.proofs.HistoryLemmas.{happened_is}
use Rattle.mt_index.specs.declared.calls.Call.{Call}
use Rattle.mt_index.specs.Calls.{pass_at}
use Rattle.mt_index.specs.Paired.{Paired}
use Rattle.mt_index.specs.Stands.{MachineView, Stands, CallStands}
use Rattle.mt_shared.specs.declared.trace.Entry.{Entry}
use Rattle.mt_shared.specs.Traces.{entry}
use Rattle.mt_shared.specs.Passes.{PassView}
use Rattle.mt_shared.specs.Drives.{Runs, Continues, IsStep, whole}
use Rattle.mt_shared.specs.Inner.{InnerView, Does, is_foreign, is_other}
use Rattle.mt_serve.specs.Store.{Store, ComesTo, MayLack}
use Rattle.mt_serve.specs.Plain.{IsAlone, store_of}
use Rattle.mt_serve.proofs.StageLemmas.{IsWriting}
use Rattle.mt_serve.proofs.CallLemmas.{Cause, CallSays, Only, only_one, says_on, says_begun}
use Rattle.mt_serve.proofs.AloneEvents.{runs_rise, Keeping, keeping, goes, leads_one, comes_more, throughout_now, sometime_with}

abbrev pub slowest_at : Moment → ℕ
slowest_at m = least (length m.commits) (map (λ (v : StandingView). v.at) m.views)

-- at each moment of a call that doesn't hold the log, it was held from where views stood at its begin
abbrev pub HeldSince : History → History → Type 0
HeldSince before past = Throughout (length before) (λ (m : Moment). held_from m ≡ slowest_at (moment before)) past

-- the call of this number alone is open, since it began when this had happened
pub record IsUnderWay (request : Request) (pass : PassNo) (call : CallNo) (before past : History) : Type 0 where
  pub one : OpenCall
  pub calls : (moment past).calls ≡ one ∷ []
  pub number : one.number ≡ call.0
  pub by : one.pass ≡ pass.0
  pub asks : one.request ≡ request
  pub began : one.began ≡ length before
  pub views : (moment past).views ≡ (moment before).views
  pub built : (moment past).built ≡ (moment before).built
  pub quiet : one.committed ≡ None → (moment past).commits ≡ (moment before).commits
  pub held : reads_log request ≡ false → one.committed ≡ None → HeldSince before past
  pub run : RunsAlone request call before past

held_none : (m n : Moment) → m.calls ≡ [] → m.commits ≡ n.commits → m.views ≡ n.views → held_from m ≡ slowest_at n
held_none m n none commits views =
    ap (λ (l : List OpenCall). least (length m.commits) (map (λ (v : StandingView). v.at) m.views ++ map (λ (c : OpenCall). c.from) (filter (λ (c : OpenCall). reads_log c.request) l))) none
    ∙ ap (λ (l : List ℕ). least (length m.commits) l) (append-nil (map (λ (v : StandingView). v.at) m.views))
    ∙ ap (λ (l : List Change). least (length l) (map (λ (v : StandingView). v.at) m.views)) commits
    ∙ ap (λ (l : List StandingView). least (length n.commits) (map (λ (v : StandingView). v.at) l)) views

held_one : (m n : Moment) (one : OpenCall) → m.calls ≡ one ∷ [] → reads_log one.request ≡ false → m.commits ≡ n.commits → m.views ≡ n.views → held_from m ≡ slowest_at n
held_one m n one only reads commits views =
    ap (λ (l : List OpenCall). least (length m.commits) (map (λ (v : StandingView). v.at) m.views ++ map (λ (c : OpenCall). c.from) (filter (λ (c : OpenCall). reads_log c.request) l))) only
    ∙ ap (λ (b : Bool). least (length m.commits) (map (λ (v : StandingView). v.at) m.views ++ map (λ (c : OpenCall). c.from) (if b then one ∷ [] else []))) reads
    ∙ ap (λ (l : List ℕ). least (length m.commits) l) (append-nil (map (λ (v : StandingView). v.at) m.views))
    ∙ ap (λ (l : List Change). least (length l) (map (λ (v : StandingView). v.at) m.views)) commits
    ∙ ap (λ (l : List StandingView). least (length n.commits) (map (λ (v : StandingView). v.at) l)) views

-- from its begin on
begun : (request : Request) (pass : PassNo) (call : CallNo) (before : History) (note : ℕ) → (moment before).calls ≡ []
    → IsUnderWay request pass call before (happening (Begin pass request) (Called call) note ∷ before)
begun request pass call before note none =
    let past : History = happening (Begin pass request) (Called call) note ∷ before in
    let own = new_call (moment before) pass.0 request call.0 in
    let only : (moment past).calls ≡ own ∷ [] = ap (λ (l : List OpenCall). l ++ own ∷ []) none in
    record {
      one = own;
      calls = only;
      number = refl;
      by = refl;
      asks = refl;
      began = happened_is before;
      views = refl;
      built = refl;
      quiet = λ pending. refl;
      held = λ reads pending. (
        (λ since. held_one (moment past) (moment before) own only reads refl refl),
        throughout_now (λ (m : Moment). held_from m ≡ slowest_at (moment before)) before (held_none (moment before) (moment before) none refl refl),
      );
      run = record { nothing_open = none; pass = pass; note = note; steps = []; are_steps = tt; is_past = refl };
    }

-- ---- its steps
module _ (request : Request) (pass : PassNo) (call : CallNo) (before past : History) (u : IsUnderWay request pass call before past) where
  abbrev one : OpenCall
  one = u.one

  pub found : call_of call.0 (moment past).calls ≡ Some one
  found = ap (call_of call.0) u.calls ∙ ap (λ (b : Bool). if b then Some one else None) (eq-eqb one.number call.0 u.number)

  after_it : (o : Outcome) (note : ℕ) → after_event (moment past) (Step call) o note ≡ after_step (moment past) one o note
  after_it o note = ap (λ (r : Option OpenCall). after_call_step (moment past) r o note) found

  replaced : (new : OpenCall) → new.number ≡ one.number → replace_call new (moment past).calls ≡ new ∷ []
  replaced new same = ap (replace_call new) u.calls ∙ ap (λ (b : Bool). (if b then new else one) ∷ []) (eq-eqb one.number new.number (sym same))

  further : (o : Outcome) (note : ℕ) → GoesOnBy o → RunsAlone request call before (happening (Step call) o note ∷ past)
  further o note on = record {
    nothing_open = u.run.nothing_open;
    pass = u.run.pass;
    note = u.run.note;
    steps = happening (Step call) o note ∷ u.run.steps;
    are_steps = (refl, on, u.run.are_steps);
    is_past = ap (λ (l : History). happening (Step call) o note ∷ l) u.run.is_past;
  }

  -- by a step that makes no commit
  quietly : (o : Outcome) (note moves : ℕ) → GoesOnBy o → after_step (moment past) one o note ≡ record (moment past) { calls = replace_call (record one { moves = moves }) (moment past).calls }
      → IsUnderWay request pass call before (happening (Step call) o note ∷ past)
  quietly o note moves on is =
      let now : History = happening (Step call) o note ∷ past in
      let same = after_it o note ∙ is in
      let new : OpenCall = record one { moves = moves } in
      let only : (moment now).calls ≡ new ∷ [] = ap (λ (m : Moment). m.calls) same ∙ replaced new refl in
      let views : (moment now).views ≡ (moment before).views = ap (λ (m : Moment). m.views) same ∙ u.views in
      let commits : (moment now).commits ≡ (moment past).commits = ap (λ (m : Moment). m.commits) same in
      record {
        one = new;
        calls = only;
        number = u.number;
        by = u.by;
        asks = u.asks;
        began = u.began;
        views = views;
        built = ap (λ (m : Moment). m.built) same ∙ u.built;
        quiet = λ pending. commits ∙ u.quiet pending;
        held = λ reads pending. (
          (λ since. held_one (moment now) (moment before) new only (ap reads_log u.asks ∙ reads) (commits ∙ u.quiet pending) views),
          u.held reads pending,
        );
        run = further o note on;
      }

  -- by its commit
  by_commit : (n note : ℕ) → IsUnderWay request pass call before (happening (Step call) (Commit n) note ∷ past)
  by_commit n note =
      let new : OpenCall = record one { committed = Some n; moves = 0 } in
      let same = after_it (Commit n) note in
      record {
        one = new;
        calls = ap (λ (m : Moment). m.calls) same ∙ replaced new refl;
        number = u.number;
        by = u.by;
        asks = u.asks;
        began = u.began;
        views = ap (λ (m : Moment). m.views) same ∙ u.views;
        built = ap (λ (m : Moment). m.built) same ∙ u.built;
        quiet = λ pending. (let clash : ◌≡◌ {A = Option ℕ} (Some n) None = pending in cc);
        held = λ reads pending. (let clash : ◌≡◌ {A = Option ℕ} (Some n) None = pending in cc);
        run = further (Commit n) note tt;
      }

  on_by : (o : Outcome) (note : ℕ) → Continues o → IsUnderWay request pass call before (happening (Step call) o note ∷ past)
  on_by Moved note on = quietly Moved note (one.moves + 1) tt refl
  on_by Again note on = quietly Again note 0 tt refl
  on_by (Commit n) note on = by_commit n note
  on_by _ note on = absurd on

  -- ---- why it may be refused
  module _ (machine : MachineView) where
    abbrev from_store : Store
    from_store = record { machine = machine; past = before }

    held_then : (own : Request) (slowest : ℕ) → reads_log own ≡ false → own ≡ request → one.committed ≡ None → Sometime (length before) (λ (m : Moment). held_from m ≡ slowest) past → slowest ≡ slowest_at (moment before)
    held_then own slowest reads is pending may =
        let (m, held, was) = sometime_with (length before) (λ (m : Moment). held_from m ≡ slowest_at (moment before)) (λ (m : Moment). held_from m ≡ slowest) past (u.held (ap reads_log (sym is) ∙ reads) pending) may in
        sym was ∙ held

    lacks : (C : ℕ) (own : Request) (refusal : Refusal) → own ≡ request → one.committed ≡ None → MayEnd C past (length before) own refusal → (IsWriting own → Cause from_store pass own call refusal) → MayLack from_store pass own call refusal
    lacks C own NoMemory is pending may cause = tt
    lacks C (Put key sets) ArenaFull is pending may cause = cause tt
    lacks C (Put key sets) (FeedFull slowest) is pending may cause = (held_then (Put key sets) slowest refl is pending may, cause tt)
    lacks C (Put key sets) Spent is pending may cause = cause tt
    lacks C (PutIf key sets version) ArenaFull is pending may cause = cause tt
    lacks C (PutIf key sets version) (FeedFull slowest) is pending may cause = (held_then (PutIf key sets version) slowest refl is pending may, cause tt)
    lacks C (PutIf key sets version) Spent is pending may cause = cause tt
    lacks C (PutIf key sets version) (OtherVersion found) is pending may cause = tt
    lacks C (Remove key) (FeedFull slowest) is pending may cause = (held_then (Remove key) slowest refl is pending may, cause tt)
    lacks C (Remove key) Spent is pending may cause = cause tt
    lacks C (Build spec) Spent is pending may cause = subst (λ (n : ℕ). greatest_number ≤ n) u.built may
    lacks C _ _ is pending may cause = absurd may

    pub refused_for : (C note : ℕ) (refusal : Refusal) → MayHappen C past (Step call) (Refused refusal) note → (IsWriting request → Cause from_store pass request call refusal) → MayLack from_store pass request call refusal
    refused_for C note refusal may cause =
        let (pending, ends) = subst (λ (r : Option OpenCall). MayStepAt C past r (Refused refusal) note) found may in
        lacks C request refusal refl pending (subst (λ (q : Request). MayEnd C past (length before) q refusal) u.asks (subst (λ (n : ℕ). MayEnd C past n one.request refusal) u.began ends)) cause

  -- ---- the machine knows it as the pass's own
  own_call : (C now : ℕ) (s : MachineView) (st : Stands s past) → pass_at call.0 s.calls.calls ≡ Some pass
  own_call C now s st = owned s.calls.calls (subst (λ (l : List OpenCall). Paired (CallStands s.columns s.epoch s.tree st.w past) 0 s.calls.begun s.calls.calls l) u.calls st.calls)
    where
      owned : (calls : List (ℕ × Call)) → Paired (CallStands s.columns s.epoch s.tree st.w past) 0 s.calls.begun calls (one ∷ []) → pass_at call.0 calls ≡ Some pass
      owned [] pairs = absurd pairs
      owned (kept ∷ []) (above, same, stands, rest) =
          ap (λ (b : Bool). option_map (λ (c : Call). c.pass) (if b then Some kept.1 else None)) (eq-eqb kept.0 call.0 (sym same ∙ u.number))
          ∙ ap (λ (n : ℕ). Some (record { 0 = n })) (sym stands.pass ∙ u.by)
      owned (kept ∷ other ∷ calls) (above, same, stands, rest) = absurd rest

  pub own_step : (s : MachineView) → Stands s past → is_foreign s pass (Step call) ≡ false
  own_step s st = ap (λ (r : Option PassNo). is_other r pass) (own_call s.columns s.epoch s st) ∙ ap not (eq-eqb pass.0 pass.0 refl)

-- ---- from its begin through its steps
-- the call is under way at what was reached
pub record Reached (s : Store) (request : Request) (pass : PassNo) (call : CallNo) (m : InnerView) (r : PassView) : Type 0 where
  pub past : History
  pub keeps : Keeping m r past
  pub way : IsUnderWay request pass call s.past past
  pub number : r.number ≡ pass
  pub columns : m.machine.columns ≡ s.machine.columns
  pub comes : ComesTo s pass request call (store_of m past)
  pub feed : m.machine.log.capacity ≡ s.machine.log.capacity
  pub says : CallSays s pass request call m.machine

-- and then the last step is made
pub record LastOf (s : Store) (request : Request) (pass : PassNo) (call : CallNo) (last : Entry) (t : InnerView) (q : PassView) : Type 0 where
  pub m : InnerView
  pub r : PassView
  pub at : Reached s request pass call m r
  pub does : Does m r last.event last.outcome t q

pub only_call : (s : Store) (request : Request) (pass : PassNo) (call : CallNo) (m : InnerView) (r : PassView) (at : Reached s request pass call m r) → Only s pass request call m.machine at.past at.way.one
only_call s request pass call m r at = only_one s pass request call m.machine at.past at.way.one at.keeps.stands at.way.calls at.way.number

steps_on : (s : Store) (request : Request) (pass : PassNo) (call : CallNo) (last : Entry) (t : InnerView) (q : PassView) → t.events < greatest_number
    → (steps : List Entry) (m : InnerView) (r : PassView) → All (IsStep pass call) steps → Reached s request pass call m r → Runs Does m r (steps ++ last ∷ []) t q → LastOf s request pass call last t q
steps_on s request pass call last t q few [] m r all at (n, w, does, (is, same)) = record {
  m = m;
  r = r;
  at = at;
  does = subst (λ (k : InnerView). Does m r last.event last.outcome k q) (sym is) (subst (λ (v : PassView). Does m r last.event last.outcome n v) (sym same) does);
}
steps_on s request pass call last t q few (x ∷ steps) m r all at (n, w, does, more) =
    let step = All-head (IsStep pass call) x steps all in
    let rises = runs_rise n t w q (steps ++ last ∷ []) more in
    let own : is_foreign m.machine r.number (Step call) ≡ false = subst (λ (p : PassNo). is_foreign m.machine p (Step call) ≡ false) (sym at.number) (own_step request pass call s.past at.past at.way m.machine at.keeps.stands) in
    let went = goes m n r w at.past (Step call) x.outcome at.keeps (omega (arith, rises, few)) own (subst (λ (e : Event). Does m r e x.outcome n w) step.event does) in
    steps_on s request pass call last t q few steps n w (All-tail (IsStep pass call) x steps all)
    (record {
      past = happening (Step call) x.outcome went.note ∷ at.past;
      keeps = went.keeps;
      way = on_by request pass call s.past at.past at.way x.outcome went.note step.outcome;
      number = went.number ∙ at.number;
      columns = went.columns ∙ at.columns;
      comes = comes_more s pass request call m n at.past x.outcome went.note at.comes step.outcome went.happens;
      feed = went.feed ∙ at.feed;
      says = says_on s pass request call (store_of m at.past) n.machine at.way.one (only_call s request pass call m r at) at.comes
          (λ pending. at.keeps.stands.commits ∙ ap length (at.way.quiet pending)) at.feed x.outcome step.outcome went.happens.happens at.says;
    }) more

pub own_begin : (m : MachineView) (pass : PassNo) (request : Request) → is_foreign m pass (Begin pass request) ≡ false
own_begin m pass request = ap not (eq-eqb pass.0 pass.0 refl)

-- what its begin says of the limits
pub record IsWhole (s : Store) (request : Request) (pass : PassNo) (call : CallNo) (last : Entry) (t : InnerView) (q : PassView) : Type 0 where
  pub ends : LastOf s request pass call last t q
  pub note : ℕ
  pub may : MayHappen s.machine.columns s.past (Begin pass request) (Called call) note

pub whole_run : (s t : InnerView) (p q : PassView) (h : History) (request : Request) (call : CallNo) (steps : List Entry) (last : Outcome) → IsAlone s p h → t.events < greatest_number
    → All (IsStep p.number call) steps → Runs Does s p (whole p.number request call steps last) t q → IsWhole (store_of s h) request p.number call (entry p.number (Step call) last) t q
whole_run s t p q h request call steps last a few all (m, r, does, more) =
    let rises = runs_rise m t r q (steps ++ entry p.number (Step call) last ∷ []) more in
    let went = goes s m p r h (Begin p.number request) (Called call) (keeping s p h a) (omega (arith, rises, few)) (own_begin s.machine p.number request) does in
    record {
      ends = steps_on (store_of s h) request p.number call (entry p.number (Step call) last) t q few steps m r all
          (record {
            past = happening (Begin p.number request) (Called call) went.note ∷ h;
            keeps = went.keeps;
            way = begun request p.number call h went.note a.ended;
            number = went.number;
            columns = went.columns;
            comes = record {
              steps = [];
              continue = All-nil Continues;
              leads = leads_one s m h (Begin p.number request) (Called call) went.note went.happens;
            };
            feed = went.feed;
            says = says_begun (store_of s h) p.number request call s.machine m.machine h p.number request a.stands a.ended went.happens.happens;
          }) more;
      note = went.note;
      may = went.may;
    }
