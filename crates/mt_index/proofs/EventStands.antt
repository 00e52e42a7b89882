-- Each step leads from a machine at a history to a machine at the next one.
use Rattle.std.proofs.Common.{true, false, ℕ, ◌≡◌, ◌+◌, inl, inr, List, [], ◌∷◌, ◌++◌, length, Option, Some, None, IsSome, refl, sym, ap, subst, ◌∙◌, arith, ◌-◌, ◌==◌, Bool, cond, map, ◌≤◌, ◌<◌}
use Rattle.std.specs.FinMap.{insert}
use Rattle.std.specs.Prelude.{IsTrue as IsTrueBool}
use Rattle.mt_tree.specs.Seen.{arena_seen}
use Rattle.std.specs.Prelude.{Contains, filter}
use Rattle.mt_types.specs.declared.refusal.Refusal.{Refusal}
use Rattle.mt_types.specs.declared.row.Row.{Row}
use Rattle.mt_types.specs.declared.numbers.PassNo.{PassNo}
use Rattle.mt_types.specs.declared.event.Request.{Request}
use Rattle.mt_types.specs.Rows.{version_of}
use Rattle.mt_types.specs.declared.event.Request.TheVariants.{Put as PutRequest, PutIf, Remove}
use Rattle.mt_types.specs.declared.event.Outcome.{Outcome}
use Rattle.mt_types.specs.declared.event.Outcome.TheVariants.{Moved as MovedOutcome, Again, Done, Refused as RefusedOutcome}
use Rattle.mt_types.specs.declared.refusal.Refusal.TheVariants.{NoSuchCall}
use Rattle.mt_promise.specs.History.{History, OpenCall, StandingView, happening, moment, rows, after_step, after_call_step, change_of, view_built}
use Rattle.mt_promise.specs.Legal.{MayStepAt, MayEnd, MayCommit, is_get, is_build}
use Rattle.mt_promise.specs.RightAnswers.{RightAnswer}
use Rattle.std.proofs.lemmas.List.{append-nil, length-map, length-append}
use Rattle.std.proofs.Math.Nat.{min-le_left}
use Rattle.std.proofs.lemmas.List.Sums.{length-filter, count_by-le-length}
use Rattle.mt_types.specs.declared.event.Answer.{Answer}
use Rattle.mt_types.specs.declared.event.Reply.{Reply}
use Rattle.mt_promise.specs.Legal.{held_from, reads_log}
use Rattle.mt_commit.specs.Log.{LogView, IsLog, newest, trimmed, kept_after}
use Rattle.mt_commit.specs.Laws.{times_held}
use Rattle.mt_commit.specs.Holders.{without_holder}
use Rattle.mt_arena.specs.Arena.{ArenaView}
use Rattle.mt_index.specs.declared.calls.Call.{Call}
use Rattle.mt_works.specs.declared.work.Work.{Work}
use Rattle.mt_works.specs.declared.work.Work.TheVariants.{Get as GetWork, Write as WriteWork, Range as RangeWork, Tidy as TidyWork, Build as BuildWork}
use Rattle.mt_steps.specs.declared.progress.Progress.{Progress}
use Rattle.mt_steps.specs.declared.progress.Progress.TheVariants.{Moved, Waits, Committed, Answered, Refused}
use Rattle.mt_steps.specs.World.{World, GoesBy}
use Rattle.mt_steps.specs.Step.{IsQuiet, IsRight, Stepped, Commits, bounds, put_row}
use Rattle.mt_chart.specs.Tree.{Arena}
use Rattle.mt_types.specs.declared.row.Change.TheVariants.{Put as PutChange, Drop}
use Rattle.mt_write.specs.declared.writing.Write.{Write}
use Rattle.mt_write.specs.declared.writing.Edit.{Edit}
use Rattle.mt_write.specs.declared.writing.Edit.TheVariants.{Put as PutEdit, Remove as RemoveEdit}
use Rattle.mt_write.specs.Held.{edit_request}
use Rattle.mt_works.specs.Works.{request_of, held, IsTrue, IsBuiltWork, WorkBuilds}
use Rattle.mt_view.specs.Views.{ViewsView, places, standing}
use Rattle.mt_index.specs.Viewing.{ReadsOf}
use Rattle.mt_index.proofs.Reading.{reads_on, has_next}
use Rattle.mt_index.proofs.ViewStands.{builds_of, least_held}
use Rattle.mt_index.specs.Calls.{CallsView, call_at, with_changed, with_work, without, total, all_reserved, StepsCall, MayStepOf, IsBuiltCall}
use Rattle.mt_index.specs.Stands.{MachineView, CallStands, WasBlocked, HasRowsOf, Stands, HasBounds, StepsOpen, Steps, holding, log_after, views_after, outcome_of, calls_after}
use Rattle.mt_index.proofs.NumberLemmas.{Entries}
use Rattle.mt_index.proofs.PairedLemmas.{Found, paired-some, paired-none, paired-length}
use Rattle.mt_index.proofs.ListLemmas.{reserves, total_changed, total_without, without_changed, order_changed, order_without}
use Rattle.mt_index.proofs.LogStands.{holds_from, froms, holders_after, log_after_is, held_less, reader_counts, reader_holds, length_by_counts, slowest_is}
use Rattle.mt_index.proofs.StepStands.{HoldersAre, held_before, builds_before, with_building, step_event, apart_changed, apart_without, owned_on, owned_end, next_seen, calls_on, calls_end, content_still, keys_still, grows_still, still, commit_stands}
use Rattle.mt_index.proofs.RightStands.{may_end, right_answer}
use Rattle.mt_index.proofs.LaterStands.{same_stands, seen}

abbrev building_after : Bool → Progress → ℕ → ℕ
building_after builds (Answered answer) building = cond builds (building - 1) building
building_after builds (Refused refusal) building = cond builds (building - 1) building
building_after builds _ building = building

views_after_is : (builds : Bool) (p : Progress) (views : ViewsView) → views_after builds p views ≡ with_building (building_after builds p views.building) views
views_after_is true (Answered answer) views = refl
views_after_is false (Answered answer) views = refl
views_after_is true (Refused refusal) views = refl
views_after_is false (Refused refusal) views = refl
views_after_is builds Moved views = refl
views_after_is builds _ views = refl

-- the log reaches back to the begin of a call that reads it
pub held_reaches : (s : MachineView) (h : History) (st : Stands s h) (n : ℕ) (kept : Call) → call_at n s.calls.calls ≡ Some kept → reads_log (request_of kept.work) ≡ true → s.log.held_after ≤ kept.from
held_reaches s h st n kept at reads =
    let held = reader_counts n _ kept s.calls.calls s.log.holders at (held_before s h st kept.from) reads in
    let low = least_held (newest s.log) kept.from s.log.holders held in
    let is = slowest_is s.log (moment h) st.commits st.held in
    let trim = st.trimmed in
    let less = min-le_left (held_from (moment h)) (kept_after s.log (length (moment h).commits)) in
    omega (arith, low, is, trim, less)

-- ---- a step of an open call
module _ (s : MachineView) (h : History) (n : ℕ) (st : Stands s h) (kept : Call) (at : call_at n s.calls.calls ≡ Some kept) (f : Found (CallStands s.columns s.epoch s.tree st.w h) n kept (moment h).calls)
    (then_tree : ArenaView) (left : LogView) (work : Work) (request : request_of work ≡ request_of kept.work) (pass : PassNo) (pass_is : pass ≡ kept.pass) (reads builds : Bool) (reads_is : reads ≡ reads_log (request_of kept.work)) (builds_is : builds ≡ is_build (request_of kept.work)) (from : ℕ) (from_is : from ≡ kept.from)
    (unbuilt : IsBuiltWork kept.work → ⊥) where
  abbrev Law : Progress → Type 0
  Law p = Stepped s.columns s.epoch f.call.moves f.related.past s.tree then_tree s.log left st.w (request_of kept.work) (held kept.work) p (held work) (λ m next. IsTrue s.columns work kept.epoch m (arena_seen s.tree ∷ f.related.past) then_tree next)

  -- the log, before it is trimmed
  abbrev settled : Progress → LogView
  settled p = record left { holders = holders_after reads from p left.holders }

  abbrev Leads : Progress → Type 0
  Leads p = WorkBuilds s.tree s.log kept.work p work → IsLog (settled p) → Stands (record { columns = s.columns; epoch = s.epoch; tree = then_tree; log = trimmed (settled p); calls = calls_after n p (record s.calls { calls = with_changed (with_work work) n s.calls.calls }); views = with_building (building_after builds p s.views.building) s.views }) (happening (step_event n) (outcome_of n pass from (newest left) p) 0 ∷ h)

  -- what is true of a build is still true after a step by which it continues
  reads_then : (p : Progress) → WorkBuilds s.tree s.log kept.work p work → ((refusal : Refusal) → p ≡ Refused refusal → ⊥) → ReadsOf s.columns (moment h).commits f.call.from work
  reads_then p goes_on goes = reads_on s h st f.call.from f.call.began kept.epoch f.related.past f.related.passed kept.work work p (λ reader. let low = held_reaches s h st n kept at reader in let same = f.related.from in omega (arith, low, same)) goes_on request f.call.moves f.related.true unbuilt goes f.related.reads

  -- the number of builds for which places are kept, if the call continues and if it ends
  building_on : s.views.building ≡ total builds_of (with_changed (with_work work) n s.calls.calls)
  building_on =
      let all = builds_before s h st in
      let changed = total_changed n kept builds_of (with_work work) s.calls.calls at in
      let same : builds_of (with_work work kept) ≡ builds_of kept = ap (λ (q : Request). cond (is_build q) 1 0) request in
      omega (arith, all, changed, same)

  building_end : cond builds (s.views.building - 1) s.views.building ≡ total builds_of (without n s.calls.calls)
  building_end =
      let all = builds_before s h st in
      let rest = total_without n kept builds_of s.calls.calls at in
      let one : ◌≡◌ {A = ℕ} (cond builds 1 0) (builds_of kept) = ap (λ (b : Bool). cond b 1 0) builds_is in
      less builds s.views.building _ (omega (arith, all, rest, one))
    where
      less : (b : Bool) (now left : ℕ) → left + cond b 1 0 ≡ now → cond b (now - 1) now ≡ left
      less true now left is = omega (arith, is)
      less false now left is = omega (arith, is)

  fewer : cond builds (s.views.building - 1) s.views.building ≤ s.views.building
  fewer = elim builds as (λ (b : Bool). cond b (s.views.building - 1) s.views.building ≤ s.views.building) [ true ↦ omega arith | false ↦ omega arith ]

  -- a step that commits nothing leaves the rows of the history
  alike : {commit : Option ℕ} {owns : List ℕ} {Then : World → Type 0} (goes : GoesBy commit s.epoch s.tree then_tree st.w (held kept.work).owns owns Then) → bounds left ≡ bounds s.log → IsQuiet s.tree then_tree s.log left
      → (o : Outcome) → (after_step (moment h) f.call o 0).commits ≡ (moment h).commits → HasRowsOf s.columns then_tree (happening (step_event n) o 0 ∷ h)
  alike goes kept_bounds quiet o commits = content_still s h n kept st at f then_tree left work _ _ goes request kept_bounds quiet o commits

  room_on : left.reserved + (held kept.work).reserves ≡ s.log.reserved + (held work).reserves → left.reserved ≡ all_reserved (with_changed (with_work work) n s.calls.calls)
  room_on e = let all = st.reserved in let changed = total_changed n kept reserves (with_work work) s.calls.calls at in omega (arith, e, all, changed)

  room_end : left.reserved + (held kept.work).reserves ≡ s.log.reserved + 0 → left.reserved ≡ all_reserved (without n s.calls.calls)
  room_end e = let all = st.reserved in let rest = total_without n kept reserves s.calls.calls at in omega (arith, e, all, rest)

  -- what holds the log, if the call continues and if it ends
  before : (number : ℕ) → bounds left ≡ bounds s.log → times_held number left.holders ≡ times_held number (map (λ (v : StandingView). v.at) (moment h).views) + total (holds_from number) s.calls.calls
  before number same = ap (λ (b : List ℕ × ℕ × ℕ × ℕ). times_held number b.0) same ∙ held_before s h st number

  held_on : bounds left ≡ bounds s.log → HoldersAre s h left.holders (with_changed (with_work work) n s.calls.calls)
  held_on same number =
      let all = before number same in
      let changed = total_changed n kept (holds_from number) (with_work work) s.calls.calls at in
      let alike : holds_from number (with_work work kept) ≡ holds_from number kept = ap (λ (q : Request). cond (reads_log q) (cond (kept.from == number) 1 0) 0) request in
      omega (arith, all, changed, alike)

  held_end : bounds left ≡ bounds s.log → HoldersAre s h (cond reads (without_holder from left.holders) left.holders) (without n s.calls.calls)
  held_end same number =
      let rest = total_without n kept (holds_from number) s.calls.calls at in
      let one : ◌≡◌ {A = ℕ} (cond reads (cond (from == number) 1 0) 0) (holds_from number kept) = ap (λ (r : Bool). cond r (cond (from == number) 1 0) 0) reads_is ∙ ap (λ (m : ℕ). cond (reads_log (request_of kept.work)) (cond (m == number) 1 0) 0) from_is in
      held_less reads from number _ _ _ left.holders (before number same) (omega (arith, rest, one))

  -- a call that ends has ended
  ended : (o : Outcome) (log : LogView) (views : ViewsView) → Stands (next_seen s then_tree log views (without n s.calls.calls)) (happening (step_event n) o 0 ∷ h) → Stands (next_seen s then_tree log views (without n (with_changed (with_work work) n s.calls.calls))) (happening (step_event n) o 0 ∷ h)
  ended o log views t = subst (λ (l : Entries). Stands (next_seen s then_tree log views l) (happening (step_event n) o 0 ∷ h)) (sym (without_changed (with_work work) n s.calls.calls)) t

  -- it builds no view
  no_view : (past : List Arena) (committed : Option ℕ) (work : Work) (answer : Answer) → IsRight past s.tree (request_of work) committed answer → view_built (request_of work) answer 0 ≡ []
  no_view past committed (GetWork g) answer right = refl
  no_view past committed (RangeWork g) answer right = refl
  no_view past committed (TidyWork g) answer right = refl
  no_view past committed (BuildWork g) answer right = absurd right
  no_view past committed (WriteWork g) answer right = by_edit g.edit
    where
      by_edit : (edit : Edit) → view_built (edit_request g.key edit) answer 0 ≡ []
      by_edit (PutEdit sets None) = refl
      by_edit (PutEdit sets (Some version)) = refl
      by_edit RemoveEdit = refl

  none_built : (past : List Arena) (committed : Option ℕ) (reply : Reply) → IsRight past s.tree (request_of kept.work) committed reply.answer → view_built f.call.request reply.answer 0 ≡ []
  none_built past committed reply right = ap (λ (q : Request). view_built q reply.answer 0) f.related.request ∙ no_view past committed kept.work reply.answer right

  views_stay : (past : List Arena) (committed : Option ℕ) (reply : Reply) → IsRight past s.tree (request_of kept.work) committed reply.answer → (after_step (moment h) f.call (Done reply) 0).views ≡ (moment h).views
  views_stay past committed reply right = ap (λ (vs : List StandingView). (moment h).views ++ vs) (none_built past committed reply right) ∙ append-nil (moment h).views

  built_stays : (past : List Arena) (committed : Option ℕ) (reply : Reply) → IsRight past s.tree (request_of kept.work) committed reply.answer → (after_step (moment h) f.call (Done reply) 0).built ≡ (moment h).built
  built_stays past committed reply right = let none = ap (λ (vs : List StandingView). length vs) (none_built past committed reply right) in omega (arith, none)

  commit_write : (number : ℕ) (g : Write) (edit : Edit) → g.edit ≡ edit → kept.work ≡ WriteWork g → Law (Committed number) → Leads (Committed number)
  commit_write number g (PutEdit sets None) e is l goes_on sound =
      let asked : f.call.request ≡ PutRequest g.key sets = f.related.request ∙ (ap request_of is ∙ ap (edit_request g.key) e) in
      let (before, changes) = subst (λ (r : Request). Commits s.columns s.tree then_tree s.log left r number) (ap request_of is ∙ ap (edit_request g.key) e) l.does.0 in
      commit_stands s h n kept st at f then_tree left work _ _ l.goes request l.bounds g.key before (Some (put_row s.columns number sets before)) number changes (PutChange g.key sets) refl (ap change_of asked)
      (λ stood. ap (λ (b : Option Row). insert (rows s.columns (moment h)) g.key (put_row s.columns number sets b)) stood)
      (λ next stood. subst (λ (r : Request). MayCommit s.columns h f.call r number) (sym asked) (next, f.related.committed ∙ l.does.1))
      refl l.does.2 l.blocked l.goes.true (reads_then (Committed number) goes_on (λ refusal e. let clash : Committed number ≡ Refused refusal = e in cc)) (room_on l.reserved) sound (held_on l.bounds) building_on
  commit_write number g (PutEdit sets (Some version)) e is l goes_on sound =
      let asked : f.call.request ≡ PutIf g.key sets version = f.related.request ∙ (ap request_of is ∙ ap (edit_request g.key) e) in
      let (before, of_version, changes) = subst (λ (r : Request). Commits s.columns s.tree then_tree s.log left r number) (ap request_of is ∙ ap (edit_request g.key) e) l.does.0 in
      commit_stands s h n kept st at f then_tree left work _ _ l.goes request l.bounds g.key before (Some (put_row s.columns number sets before)) number changes (PutChange g.key sets) refl (ap change_of asked)
      (λ stood. ap (λ (b : Option Row). insert (rows s.columns (moment h)) g.key (put_row s.columns number sets b)) stood)
      (λ next stood. subst (λ (r : Request). MayCommit s.columns h f.call r number) (sym asked) (next, f.related.committed ∙ l.does.1, ap version_of stood ∙ of_version))
      refl l.does.2 l.blocked l.goes.true (reads_then (Committed number) goes_on (λ refusal e. let clash : Committed number ≡ Refused refusal = e in cc)) (room_on l.reserved) sound (held_on l.bounds) building_on
  commit_write number g RemoveEdit e is l goes_on sound =
      let asked : f.call.request ≡ Remove g.key = f.related.request ∙ (ap request_of is ∙ ap (edit_request g.key) e) in
      let (before, changes) = subst (λ (r : Request). Commits s.columns s.tree then_tree s.log left r number) (ap request_of is ∙ ap (edit_request g.key) e) l.does.0 in
      commit_stands s h n kept st at f then_tree left work _ _ l.goes request l.bounds g.key (Some before) None number changes (Drop g.key) refl (ap change_of asked)
      (λ stood. refl)
      (λ next stood. subst (λ (r : Request). MayCommit s.columns h f.call r number) (sym asked) (next, f.related.committed ∙ l.does.1, subst (λ (x : Option Row). IsSome x) (sym stood) refl))
      refl l.does.2 l.blocked l.goes.true (reads_then (Committed number) goes_on (λ refusal e. let clash : Committed number ≡ Refused refusal = e in cc)) (room_on l.reserved) sound (held_on l.bounds) building_on

  commit_leads : (number : ℕ) (kind : Work) → kept.work ≡ kind → Law (Committed number) → Leads (Committed number)
  commit_leads number (GetWork g) is l goes_on sound =
      absurd (subst (λ (x : Work). Commits s.columns s.tree then_tree s.log left (request_of x) number) is l.does.0)
  commit_leads number (BuildWork g) is l goes_on sound =
      absurd (subst (λ (x : Work). Commits s.columns s.tree then_tree s.log left (request_of x) number) is l.does.0)
  commit_leads number (TidyWork g) is l goes_on sound =
      absurd (subst (λ (x : Work). Commits s.columns s.tree then_tree s.log left (request_of x) number) is l.does.0)
  commit_leads number (RangeWork g) is l goes_on sound =
      absurd (subst (λ (x : Work). Commits s.columns s.tree then_tree s.log left (request_of x) number) is l.does.0)
  commit_leads number (WriteWork g) is l goes_on sound = commit_write number g g.edit refl is l goes_on sound

  leads : (p : Progress) → Law p → Leads p
  leads Moved l goes_on sound =
      still s h n kept st at f then_tree left work _ _ l.goes request l.bounds l.does.0 MovedOutcome _ left.holders s.views.building
      (λ get. l.may (subst (λ (r : Request). IsTrueBool (is_get r)) f.related.request get)) refl refl refl refl
      (calls_on s h n kept st at f then_tree left work _ _ l.goes request l.bounds MovedOutcome (record f.call { moves = f.call.moves + 1 }) _ refl refl refl refl refl refl (f.related.committed ∙ sym l.does.1) l.blocked (alike l.goes l.bounds l.does.0 MovedOutcome refl)
      (keys_still s h n kept st at f then_tree left work _ _ l.goes request l.bounds l.does.0 MovedOutcome refl) (grows_still s h n kept st at f then_tree left work _ _ l.goes request l.bounds l.does.0 MovedOutcome refl) l.goes.true
      (reads_then Moved goes_on (λ refusal e. let clash : Moved ≡ Refused refusal = e in cc)))
      (apart_changed s h n kept st at f then_tree work _ _ l.goes refl) (owned_on s h n kept st at f then_tree work _ _ l.goes refl) (room_on l.reserved) sound (held_on l.bounds) building_on (omega arith) refl (order_changed work n 0 s.calls.calls st.in_order)
  leads Waits l goes_on sound =
      still s h n kept st at f then_tree left work _ _ l.goes request l.bounds l.does.0 Again _ left.holders s.views.building tt refl refl refl refl
      (calls_on s h n kept st at f then_tree left work _ _ l.goes request l.bounds Again (record f.call { moves = 0 }) _ refl refl refl refl refl refl (f.related.committed ∙ sym l.does.1) l.blocked (alike l.goes l.bounds l.does.0 Again refl)
      (keys_still s h n kept st at f then_tree left work _ _ l.goes request l.bounds l.does.0 Again refl) (grows_still s h n kept st at f then_tree left work _ _ l.goes request l.bounds l.does.0 Again refl) l.goes.true
      (reads_then Waits goes_on (λ refusal e. let clash : Waits ≡ Refused refusal = e in cc)))
      (apart_changed s h n kept st at f then_tree work _ _ l.goes refl) (owned_on s h n kept st at f then_tree work _ _ l.goes refl) (room_on l.reserved) sound (held_on l.bounds) building_on (omega arith) refl (order_changed work n 0 s.calls.calls st.in_order)
  leads (Committed number) l goes_on sound = commit_leads number kept.work refl l goes_on sound
  leads (Answered answer) l goes_on sound =
      let reply : Reply = record { pass = pass; call = record { 0 = n }; from = from; to = newest left; answer = answer } in
      ended _ _ _ (still s h n kept st at f then_tree left work _ _ l.goes request l.bounds l.does.0 (Done reply) _ (cond reads (without_holder from left.holders) left.holders) (cond builds (s.views.building - 1) s.views.building)
      (record {
        pass = ap (λ (p : PassNo). p.0) pass_is ∙ sym f.related.pass;
        number = sym f.numbered;
        from = from_is ∙ sym f.related.from;
        to = ap (λ (m : ℕ). m + length left.deltas) l.does.0.trimmed ∙ ap (λ ds. s.log.held_after + length ds) l.does.0.deltas ∙ st.commits;
        answer = subst (λ (q : Request). RightAnswer s.columns h f.call q answer 0) (sym f.related.request) (right_answer s h st f.call kept.work answer f.related.began f.related.committed f.related.past f.related.passed l.does.1);
      })
      refl refl (views_stay _ _ reply l.does.1) (built_stays _ _ reply l.does.1)
      (calls_end s h n kept st at f then_tree left work _ _ l.goes request l.bounds (Done reply) refl (alike l.goes l.bounds l.does.0 (Done reply) refl)
      (keys_still s h n kept st at f then_tree left work _ _ l.goes request l.bounds l.does.0 (Done reply) refl) (grows_still s h n kept st at f then_tree left work _ _ l.goes request l.bounds l.does.0 (Done reply) refl))
      (apart_without n s.calls.calls st.apart) (owned_end s h n kept st at f then_tree work _ _ l.goes refl) (room_end l.reserved) sound (held_end l.bounds) building_end fewer refl (order_without n 0 s.calls.calls st.in_order))
  leads (Refused refusal) l goes_on sound =
      ended _ _ _ (still s h n kept st at f then_tree left work _ _ l.goes request l.bounds l.does.0 (RefusedOutcome refusal) _ (cond reads (without_holder from left.holders) left.holders) (cond builds (s.views.building - 1) s.views.building)
      (f.related.committed ∙ l.does.1, subst (λ (q : Request). MayEnd s.columns h f.call.began q refusal) (sym f.related.request) (may_end s h st f.call.began f.related.began kept.work refusal (subst (WasBlocked f.call.began h) l.blocked f.related.blocked) l.does.2 l.does.3))
      refl refl refl refl
      (calls_end s h n kept st at f then_tree left work _ _ l.goes request l.bounds (RefusedOutcome refusal) refl (alike l.goes l.bounds l.does.0 (RefusedOutcome refusal) refl)
      (keys_still s h n kept st at f then_tree left work _ _ l.goes request l.bounds l.does.0 (RefusedOutcome refusal) refl) (grows_still s h n kept st at f then_tree left work _ _ l.goes request l.bounds l.does.0 (RefusedOutcome refusal) refl))
      (apart_without n s.calls.calls st.apart) (owned_end s h n kept st at f then_tree work _ _ l.goes refl) (room_end l.reserved) sound (held_end l.bounds) building_end fewer refl (order_without n 0 s.calls.calls st.in_order))

pub step_open : (s t : MachineView) (n : ℕ) (outcome : Outcome) (h : History) → StepsOpen s n outcome t → Stands s h → Stands t (happening (step_event n) outcome 0 ∷ h)
step_open s t n outcome h o st =
    let so = o.steps in
    let f = paired-some (CallStands s.columns s.epoch s.tree st.w h) 0 s.calls.begun n s.calls.calls (moment h).calls so.call st.calls so.is_open in
    let l = so.made.law.steps so.call.epoch f.call.moves f.related.past st.w st.world f.related.epoch f.related.true in
    let log_is = log_after_is o.reads o.from o.p o.log in
    let next : LogView → CallsView → ViewsView → MachineView = λ g c v. record { columns = s.columns; epoch = s.epoch; tree = o.tree; log = trimmed g; calls = c; views = v } in
    let log : LogView = record o.log { holders = holders_after o.reads o.from o.p o.log.holders } in
    let calls : CallsView = calls_after n o.p (record s.calls { calls = with_changed (with_work so.next.work) n s.calls.calls }) in
    let views : ViewsView = with_building (building_after o.builds o.p s.views.building) s.views in
    subst (λ (u : MachineView). Stands u (happening (step_event n) outcome 0 ∷ h))
    (sym (o.is_next ∙ ap (λ (c : CallsView). next (log_after o.reads o.from o.p o.log) (calls_after n o.p c) (views_after o.builds o.p s.views)) so.changed
    ∙ ap (λ (g : LogView). next g calls (views_after o.builds o.p s.views)) log_is
    ∙ ap (next log calls) (views_after_is o.builds o.p s.views)))
    (subst (λ (z : Outcome). Stands (next log calls views) (happening (step_event n) z 0 ∷ h)) (sym o.is_outcome)
    (leads s h n st so.call so.is_open f o.tree o.log so.next.work so.made.same_request o.pass so.made.pass_is o.reads o.builds so.made.reads_is so.made.builds_is o.from so.made.from_is
    (λ built. o.unbuilt (subst IsBuiltCall (sym so.is_open) built)) o.p l so.made.goes_on (subst IsLog log_is o.sound)))

-- ---- a step of a call that is not open
pub unknown : (s : MachineView) (n : ℕ) (h : History) → call_at n s.calls.calls ≡ None → Stands s h → Stands s (happening (step_event n) (RefusedOutcome NoSuchCall) 0 ∷ h)
unknown s n h at st =
    let of = paired-none (CallStands s.columns s.epoch s.tree st.w h) 0 s.calls.begun n s.calls.calls (moment h).calls st.calls at in
    same_stands s h (happening (step_event n) (RefusedOutcome NoSuchCall) 0) st (subst (λ r. MayStepAt s.columns h r (RefusedOutcome NoSuchCall) 0) (sym of) refl)
    (ap (λ r. (after_call_step (moment h) r (RefusedOutcome NoSuchCall) 0).commits) of)
    (ap (λ r. (after_call_step (moment h) r (RefusedOutcome NoSuchCall) 0).begun) of)
    (ap (λ r. (after_call_step (moment h) r (RefusedOutcome NoSuchCall) 0).calls) of)
    (ap (λ r. (after_call_step (moment h) r (RefusedOutcome NoSuchCall) 0).views) of)
    (ap (λ r. (after_call_step (moment h) r (RefusedOutcome NoSuchCall) 0).built) of)
    (ap (λ r. (after_call_step (moment h) r (RefusedOutcome NoSuchCall) 0).epoch) of)

-- ---- each call may step
pub may_step : (s : MachineView) (h : History) (n : ℕ) → Stands s h → (IsBuiltCall (call_at n s.calls.calls) → ⊥) → MayStepOf s.epoch s.columns s.tree s.log (call_at n s.calls.calls)
may_step s h n st = go (call_at n s.calls.calls) refl
  where
    go : (r : Option Call) → call_at n s.calls.calls ≡ r → (IsBuiltCall r → ⊥) → MayStepOf s.epoch s.columns s.tree s.log r
    go None at unbuilt = tt
    go (Some kept) at unbuilt =
        let f = paired-some (CallStands s.columns s.epoch s.tree st.w h) 0 s.calls.begun n s.calls.calls (moment h).calls kept st.calls at in (
          record {
            begun = kept.epoch;
            moves = f.call.moves;
            past = f.related.past;
            w = st.w;
            world = st.world;
            true = f.related.true;
            room = let all = st.reserved in let rest = total_without n kept reserves s.calls.calls at in omega (arith, all, rest);
          },
          has_next s h st f.call.from f.call.began kept.epoch f.related.past f.related.passed kept.work (λ reader. let low = held_reaches s h st n kept at reader in let same = f.related.from in omega (arith, low, same)) f.related.reads unbuilt,
        )

-- ---- who holds the log
-- it has no more holders than there are views and open calls
pub few_hold : (s : MachineView) (h : History) → Stands s h → length s.log.holders ≤ places s.views + length s.calls.calls
few_hold s h st =
    let as_many = length_by_counts s.log.holders (holding (moment h)) st.held in
    let both = length-append (map (λ (v : StandingView). v.at) (moment h).views) (froms (moment h).calls) in
    let of_views = length-map (moment h).views (λ (v : StandingView). v.at) in
    let views = ap (λ (vs : List StandingView). length vs) st.views.standing ∙ length-map s.views.views standing in
    let read = length-map (filter (λ (call : OpenCall). reads_log call.request) (moment h).calls) (λ (call : OpenCall). call.from) in
    let fewer = length-filter (λ (call : OpenCall). reads_log call.request) (moment h).calls in
    let counted = count_by-le-length (λ (call : OpenCall). reads_log call.request) (moment h).calls in
    let all = paired-length (CallStands s.columns s.epoch s.tree st.w h) 0 s.calls.begun s.calls.calls (moment h).calls st.calls in
    omega (arith, as_many, both, of_views, views, read, fewer, counted, all)

-- a step of a call leaves who holds the log, and how much it may hold
pub step_bounds : (s : MachineView) (h : History) (n : ℕ) (calls : CallsView) (then_tree : ArenaView) (left : LogView) (pass : PassNo) (reads builds : Bool) (from : ℕ) (p : Progress) → StepsCall s.epoch s.columns n s.calls calls s.tree then_tree s.log left pass reads builds from p → Stands s h → bounds left ≡ bounds s.log
step_bounds s h n calls then_tree left pass reads builds from p steps st =
    let f = paired-some (CallStands s.columns s.epoch s.tree st.w h) 0 s.calls.begun n s.calls.calls (moment h).calls steps.call st.calls steps.is_open in
    (steps.made.law.steps steps.call.epoch f.call.moves f.related.past st.w st.world f.related.epoch f.related.true).bounds

-- a call that reads the log is one of its holders
pub may_settle : (s : MachineView) (h : History) (n : ℕ) (calls : CallsView) (then_tree : ArenaView) (left : LogView) (pass : PassNo) (reads builds : Bool) (from : ℕ) (p : Progress) → StepsCall s.epoch s.columns n s.calls calls s.tree then_tree s.log left pass reads builds from p → Stands s h → IsTrueBool reads → Contains left.holders from
may_settle s h n calls then_tree left pass reads builds from p steps st is =
    let same = step_bounds s h n calls then_tree left pass reads builds from p steps st in
    subst (λ (b : List ℕ × ℕ × ℕ × ℕ). Contains b.0 from) (sym same)
    (subst (λ (m : ℕ). Contains s.log.holders m) (sym steps.made.from_is)
    (reader_holds n _ steps.call s.calls.calls s.log.holders steps.is_open (held_before s h st steps.call.from) (sym steps.made.reads_is ∙ is)))

-- and a build keeps a place
pub may_vacate : (s : MachineView) (h : History) (n : ℕ) (calls : CallsView) (then_tree : ArenaView) (left : LogView) (pass : PassNo) (reads builds : Bool) (from : ℕ) (p : Progress) → StepsCall s.epoch s.columns n s.calls calls s.tree then_tree s.log left pass reads builds from p → Stands s h → IsTrueBool builds → 0 < s.views.building
may_vacate s h n calls then_tree left pass reads builds from p steps st is =
    let all = builds_before s h st in
    let rest = total_without n steps.call builds_of s.calls.calls steps.is_open in
    let one : builds_of steps.call ≡ 1 = ap (λ (b : Bool). cond b 1 0) (sym steps.made.builds_is ∙ is) in
    omega (arith, all, rest, one)

pub settled_bounds : (reads : Bool) (from : ℕ) (p : Progress) (left : LogView) (feed keep : ℕ) → (left.capacity ≡ feed) × (left.retention ≡ keep) → HasBounds feed keep (trimmed (log_after reads from p left))
settled_bounds reads from p left feed keep had = subst (λ (l : LogView). HasBounds feed keep (trimmed l)) (sym (log_after_is reads from p left)) had

-- ---- as the code takes it
module _ (C epoch : ℕ) (a after_tree : ArenaView) (log left : LogView) (calls new final : CallsView) (views kept_views : ViewsView) (n : ℕ) (pass : PassNo) (reads builds : Bool) (from : ℕ) (p : Progress)
    (unbuilt : IsBuiltCall (call_at n calls.calls) → ⊥) (steps : StepsCall epoch C n calls new a after_tree log left pass reads builds from p) (last : final ≡ calls_after n p new) (settled_log : LogView) (log_is : settled_log ≡ log_after reads from p left) (views_are : kept_views ≡ views_after builds p views) (sound : IsLog settled_log) where
  taken : StepsOpen (seen C epoch a log calls views) n (outcome_of n pass from (newest left) p) (seen C epoch after_tree (trimmed settled_log) final kept_views)
  taken = record {
    pass = pass;
    from = from;
    p = p;
    calls = new;
    tree = after_tree;
    log = left;
    reads = reads;
    builds = builds;
    unbuilt = unbuilt;
    steps = steps;
    sound = subst IsLog log_is sound;
    is_outcome = refl;
    is_next = ap (λ (c : CallsView). seen C epoch after_tree (trimmed settled_log) c kept_views) last
        ∙ ap (λ (g : LogView). seen C epoch after_tree (trimmed g) (calls_after n p new) kept_views) log_is
        ∙ ap (seen C epoch after_tree (trimmed (log_after reads from p left)) (calls_after n p new)) views_are;
  }

  pub taken-steps : (now : MachineView) (outcome : Outcome) (trimmed_log : LogView) → trimmed_log ≡ trimmed settled_log → seen C epoch a log calls views ≡ now → outcome ≡ outcome_of n pass from (newest left) p → Steps now n outcome (seen C epoch after_tree trimmed_log final kept_views)
  taken-steps now outcome trimmed_log done same e =
      inr (inl (subst (λ (g : LogView). StepsOpen now n outcome (seen C epoch after_tree g final kept_views)) (sym done)
      (subst (λ (s : MachineView). StepsOpen s n outcome (seen C epoch after_tree (trimmed settled_log) final kept_views)) same
      (subst (λ (o : Outcome). StepsOpen (seen C epoch a log calls views) n o (seen C epoch after_tree (trimmed settled_log) final kept_views)) (sym e) taken))))

  pub taken-stands : (trimmed_log : LogView) → trimmed_log ≡ trimmed settled_log → (h : History) × Stands (seen C epoch a log calls views) h → (h : History) × Stands (seen C epoch after_tree trimmed_log final kept_views) h
  taken-stands trimmed_log done (h, st) = (
    happening (step_event n) (outcome_of n pass from (newest left) p) 0 ∷ h,
    subst (λ (g : LogView). Stands (seen C epoch after_tree g final kept_views) (happening (step_event n) (outcome_of n pass from (newest left) p) 0 ∷ h)) (sym done) (step_open _ _ n _ h taken st),
  )
