-- A machine on which one call runs alone: from its begin on, at each step, and once it has ended.
use Rattle.std.proofs.Common.{ℕ, ◌≡◌, ◌<◌, ◌≤◌, ◌*◌, ◌⊎◌, Bool, true, false, inl, inr, List, [], ◌∷◌, ◌++◌, length, Option, Some, None, refl, sym, ap, subst, ◌∙◌, arith}
use Rattle.std.specs.Prelude.{if◌then◌else◌, ◌+◌}
use Rattle.std.proofs.lemmas.Bool.{eq-eqb}
use Rattle.mt_types.specs.declared.numbers.PassNo.{PassNo}
use Rattle.mt_types.specs.declared.numbers.CallNo.{CallNo}
use Rattle.mt_types.specs.declared.event.Event.TheVariants.{Begin, Step}
use Rattle.mt_types.specs.declared.event.Request.{Request}
use Rattle.std.specs.Prelude.{All, IsSome}
use Rattle.std.specs.FinMap.{get}
use Rattle.std.proofs.lemmas.List.Elements.{All-nil, All-cons, All-head, All-tail}
use Rattle.mt_types.specs.Rows.{Rows, shown}
use Rattle.mt_types.specs.declared.row.Row.{Row}
use Rattle.mt_types.specs.declared.event.Answer.TheVariants.{Rows as RowsAnswer}
use Rattle.mt_types.specs.declared.event.Request.TheVariants.{Get as GetRequest, Put as PutRequest, PutIf as PutIfRequest, Remove as RemoveRequest, Range as RangeRequest, Tidy as TidyRequest, Build as BuildRequest}
use Rattle.mt_slice.specs.Place.{AreBytes, place_of}
use Rattle.mt_chart.specs.ScanRun.{Stood, AllHave}
use Rattle.mt_chart.specs.KeyAnswer.{KeysAreBytes}
use Rattle.mt_tree.specs.Seen.{arena_seen}
use Rattle.mt_steps.specs.Lone.{IsRightNow}
use Rattle.mt_types.specs.declared.event.Reply.{Reply}
use Rattle.mt_types.specs.declared.event.Outcome.{Outcome}
use Rattle.mt_types.specs.declared.event.Outcome.TheVariants.{Call as Called, Moved, Commit, Done, Refused}
use Rattle.mt_types.specs.declared.refusal.Refusal.{Refusal}
use Rattle.mt_promise.specs.History.{History, happening, moment, rows, OpenCall}
use Rattle.mt_promise.specs.Legal.{reads_log}
use Rattle.mt_promise.specs.declared.limits.TheConstants.{MAX_READS}
use Rattle.mt_promise.specs.Alone.{ShowsRow, IsRangeOfMap, GoesOnBy, RunsAlone, RunsThrough, EndsPlainly, EndsRefused}
use Rattle.mt_promise.proofs.AloneLemmas.{lone_calls_are_plain, lone_refusals_do_nothing}
use Rattle.mt_promise.proofs.RefusalLemmas.{turned_away_plainly}
use Rattle.mt_commit.specs.Log.{LogView, newest, trimmed, IsLog}
use Rattle.mt_commit.proofs.LogLemmas.{newest-trimmed}
use Rattle.mt_arena.specs.Arena.{ArenaView}
use Rattle.mt_chart.specs.Tree.{Among}
use Rattle.mt_steps.specs.declared.progress.Progress.{Progress}
use Rattle.mt_steps.specs.declared.progress.Progress.TheVariants.{Moved as WentOn, Waits, Committed, Answered, Refused as EndsProgress}
use Rattle.mt_steps.specs.World.{IsTaken}
use Rattle.mt_works.specs.declared.work.Work.{Work}
use Rattle.mt_works.specs.declared.work.Work.TheVariants.{Get, Write, Range, Tidy, Build}
use Rattle.mt_write.specs.declared.writing.Edit.{Edit}
use Rattle.mt_write.specs.declared.writing.Edit.TheVariants.{Put, Remove}
use Rattle.mt_write.specs.Held.{edit_request}
use Rattle.mt_arena.specs.Node.{occupied}
use Rattle.mt_works.specs.Works.{request_of, held, IsTrue, IsBuiltWork, WorkBuilds}
use Rattle.mt_works.specs.Causes.{WorkWaits}
use Rattle.mt_works.specs.Follows.{WorkFollows, WorkPosts, WorkReads}
use Rattle.mt_steps.specs.Step.{StepLawIn}
use Rattle.mt_works.proofs.LoneWork.{LoneLaws, RunsLone, IsGet, lone_get_steps, work_left, lone_begins, lone_moves, lone_commits, lone_waits_not}
use Rattle.mt_index.specs.declared.calls.Call.{Call}
use Rattle.mt_index.specs.Calls.{CallsView, call_at, with_changed, with_work, without, IsBuiltCall}
use Rattle.mt_index.specs.Paired.{Paired}
use Rattle.mt_index.specs.Stands.{MachineView, Stands, CallStands, Begins, Steps, StepsOpen, EndsBuild, outcome_of, calls_after, log_after, views_after, pinned, fault_of}
use Rattle.mt_index.specs.Alone.{IsIdle, pass_0, next_call, IsShort, AnswersFrom, AnswersPlainly, RefusesPlainly}
use Rattle.mt_index.proofs.BeginStands.{begins-stands, begins-columns}
use Rattle.mt_index.proofs.ViewEvents.{steps-stand, steps-columns}

-- ---- the machine
-- the call of this number is the only open one, after `made` steps
pub record IsRunning (s : MachineView) (number made : ℕ) : Type 0 where
  pub call : Call
  pub only : s.calls.calls ≡ (number, call) ∷ []
  pub lone : RunsLone s.columns s.epoch made s.tree (newest s.log) call.work

-- what is left of the first open call
abbrev pub calls_left : ArenaView → ℕ → List (ℕ × Call) → ℕ
calls_left a commits [] = 0
calls_left a commits (entry ∷ entries) = work_left a commits entry.1.work

abbrev pub machine_left : MachineView → ℕ
machine_left s = calls_left s.tree (newest s.log) s.calls.calls

-- ---- one open call
one_at : (number : ℕ) (call : Call) → call_at number ((number, call) ∷ []) ≡ Some call
one_at number call = ap (λ (b : Bool). if b then Some call else None) (eq-eqb number number refl)

one_changed : (number : ℕ) (call : Call) (work : Work) → with_changed (with_work work) number ((number, call) ∷ []) ≡ (number, with_work work call) ∷ []
one_changed number call work = ap (λ (b : Bool). if b then (number, with_work work call) ∷ [] else (number, call) ∷ []) (eq-eqb number number refl)

one_without : (number : ℕ) (call : Call) → without number ((number, call) ∷ []) ≡ []
one_without number call = ap (λ (b : Bool). if b then [] else (number, call) ∷ []) (eq-eqb number number refl)

same_call : (one other : Call) → ◌≡◌ {A = Option Call} (Some one) (Some other) → one ≡ other
same_call one other e = cc

-- trimming keeps the number of the newest commit
trimmed_newest : (log : LogView) → IsLog log → newest (trimmed log) ≡ newest log
trimmed_newest log sound = newest-trimmed log (trimmed log).held_after (trimmed log).deltas sound refl refl

pinned_newest : (reads : Bool) (log : LogView) → newest (pinned reads log) ≡ newest log
pinned_newest true log = refl
pinned_newest false log = refl

-- ---- its begin
pub begins_running : LoneLaws → (s t : MachineView) (h : History) (pass : PassNo) (request : Request) (number : CallNo) → IsIdle s → Stands s h → Begins s pass request (Called number) t → (runs : IsRunning t number.0 0) × (request_of runs.call.work ≡ request) × (t.tree ≡ s.tree)
begins_running laws s t h pass request number idle st (none, numbered, work, asks, new, next) =
    subst (λ (m : MachineView). (runs : IsRunning m number.0 0) × (request_of runs.call.work ≡ request) × (m.tree ≡ s.tree)) (sym next) (
      record {
        call = record { pass = pass; from = newest s.log; epoch = s.epoch; work = work };
        only = ap (λ (l : List (ℕ × Call)). l ++ (s.calls.begun + 1, record { pass = pass; from = newest s.log; epoch = s.epoch; work = work }) ∷ []) idle
            ∙ ap (λ (n : ℕ). (n, record { pass = pass; from = newest s.log; epoch = s.epoch; work = work }) ∷ []) (sym (ap (λ (c : CallNo). c.0) numbered));
        lone = subst (λ (n : ℕ). RunsLone s.columns s.epoch 0 s.tree n work) (sym (pinned_newest (reads_log (request_of work)) s.log)) (lone_begins laws s.columns s.epoch (newest s.log) s.tree st.w st.world free work new);
      },
      asks,
      refl,
    )
  where
    none_among : (k : ℕ × Call) → Among k [] → ⊥
    none_among k i = elim i [ ]

    free : (n : ℕ) → IsTaken s.tree st.w n → ⊥
    free n taken = let (k, i, owned) = st.owned n taken in none_among k (subst (λ (l : List (ℕ × Call)). Among k l) idle i)

-- ---- its steps
-- it advances by a step; a step of a get leaves the tree as it was
pub record GoesFurther (s : MachineView) (work : Work) (number made : ℕ) (t : MachineView) : Type 0 where
  pub runs : IsRunning t number (made + 1)
  pub falls : machine_left t < machine_left s
  pub asks : request_of runs.call.work ≡ request_of work
  pub reads : IsGet work → t.tree ≡ s.tree

-- what a step comes to
abbrev pub ComesTo : MachineView → Work → ℕ → ℕ → Outcome → MachineView → Type 0
ComesTo s work number made Moved t = GoesFurther s work number made t
ComesTo s work number made (Commit commit) t = GoesFurther s work number made t
ComesTo s work number made (Done reply) t = IsIdle t
ComesTo s work number made (Refused refusal) t = IsIdle t
ComesTo s work number made _ t = ⊥

-- a get leaves the tree as it is
read_only : (a after : ArenaView) (work : Work) → WorkReads a after work → IsGet work → after ≡ a
read_only a after (Get own) reads is = reads
read_only a after _ reads is = absurd is

module _ (laws : LoneLaws) (s t : MachineView) (number made : ℕ) (runs : IsRunning s number made) where
  there : call_at number s.calls.calls ≡ Some runs.call
  there = ap (call_at number) runs.only ∙ one_at number runs.call

  -- what was left before the step
  left_before : machine_left s ≡ work_left s.tree (newest s.log) runs.call.work
  left_before = ap (calls_left s.tree (newest s.log)) runs.only

  module _ (outcome : Outcome) (o : StepsOpen s number outcome t) where
    same : o.steps.call ≡ runs.call
    same = same_call o.steps.call runs.call (sym o.steps.is_open ∙ there)

    lone : RunsLone s.columns s.epoch made s.tree (newest s.log) o.steps.call.work
    lone = subst (λ (c : Call). RunsLone s.columns s.epoch made s.tree (newest s.log) c.work) (sym same) runs.lone

    unbuilt : IsBuiltWork o.steps.call.work → ⊥
    unbuilt built = o.unbuilt (subst (λ (c : Option Call). IsBuiltCall c) (sym o.steps.is_open) built)

    abbrev next : Progress → MachineView
    next p = record {
      columns = s.columns;
      epoch = s.epoch;
      tree = o.tree;
      log = trimmed (log_after o.reads o.from p o.log);
      calls = calls_after number p o.calls;
      views = views_after o.builds p s.views;
    }

    -- the call has come so far
    calls_now : o.calls.calls ≡ (number, with_work o.steps.next.work runs.call) ∷ []
    calls_now = ap (λ (c : CallsView). c.calls) o.steps.changed ∙ ap (with_changed (with_work o.steps.next.work) number) runs.only ∙ one_changed number runs.call o.steps.next.work

    goes_on : (p : Progress) → calls_after number p o.calls ≡ o.calls → log_after o.reads o.from p o.log ≡ o.log → IsLog o.log
        → RunsLone s.columns s.epoch (made + 1) o.tree (newest o.log) o.steps.next.work × (work_left o.tree (newest o.log) o.steps.next.work < work_left s.tree (newest s.log) o.steps.call.work)
        → GoesFurther s runs.call.work number made (next p)
    goes_on p calls log sound (further, falls) = record {
      runs = record {
        call = with_work o.steps.next.work runs.call;
        only = ap (λ (c : CallsView). c.calls) calls ∙ calls_now;
        lone = subst (λ (n : ℕ). RunsLone s.columns s.epoch (made + 1) o.tree n o.steps.next.work) (sym (ap (λ (l : LogView). newest (trimmed l)) log ∙ trimmed_newest o.log sound)) further;
      };
      falls = subst (λ (n : ℕ). n < machine_left s) (sym left_now) (subst (λ (n : ℕ). work_left o.tree (newest o.log) o.steps.next.work < n) (ap (λ (c : Call). work_left s.tree (newest s.log) c.work) same ∙ sym left_before) falls);
      asks = o.steps.made.same_request ∙ ap (λ (c : Call). request_of c.work) same;
      reads = λ is. read_only s.tree o.tree o.steps.call.work o.steps.made.read (subst (λ (c : Call). IsGet c.work) (sym same) is);
    }
      where
        left_now : machine_left (next p) ≡ work_left o.tree (newest o.log) o.steps.next.work
        left_now = ap (calls_left o.tree (newest (trimmed (log_after o.reads o.from p o.log)))) (ap (λ (c : CallsView). c.calls) calls ∙ calls_now)
            ∙ ap (λ (n : ℕ). work_left o.tree n o.steps.next.work) (ap (λ (l : LogView). newest (trimmed l)) log ∙ trimmed_newest o.log sound)

    ended : without number o.calls.calls ≡ []
    ended = ap (without number) calls_now ∙ one_without number (with_work o.steps.next.work runs.call)

    comes_by : (p : Progress) → o.p ≡ p → ComesTo s runs.call.work number made (outcome_of number o.pass o.from (newest o.log) p) (next p)
    comes_by WentOn e = goes_on WentOn refl refl (subst (λ (p : Progress). IsLog (log_after o.reads o.from p o.log)) e o.sound)
        (lone_moves laws s.columns s.epoch made s.tree o.tree s.log o.log o.steps.call.work lone unbuilt o.steps.next.work
        (subst (λ (p : Progress). StepLawIn s.epoch s.columns s.tree o.tree s.log o.log (request_of o.steps.call.work) (held o.steps.call.work) p (held o.steps.next.work) (IsTrue s.columns o.steps.call.work) (IsTrue s.columns o.steps.next.work)) e o.steps.made.law)
        o.steps.made.same_request (subst (λ (p : Progress). WorkFollows s.tree s.log o.steps.call.work p o.steps.next.work) e o.steps.made.follows) (subst (λ (p : Progress). WorkBuilds s.tree s.log o.steps.call.work p o.steps.next.work) e o.steps.made.goes_on) o.steps.made.read (subst (λ (p : Progress). WorkPosts s.tree o.tree o.steps.call.work p o.steps.next.work) e o.steps.made.posts))
    comes_by Waits e = lone_waits_not laws s.columns s.epoch made s.tree o.tree s.log o.log o.steps.call.work lone unbuilt o.steps.next.work (subst (λ (p : Progress). WorkWaits s.tree o.steps.call.work p) e o.steps.made.waits)
        (subst (λ (p : Progress). WorkFollows s.tree s.log o.steps.call.work p o.steps.next.work) e o.steps.made.follows)
    comes_by (Committed n) e = goes_on (Committed n) refl refl (subst (λ (p : Progress). IsLog (log_after o.reads o.from p o.log)) e o.sound)
        (lone_commits laws s.columns s.epoch made s.tree o.tree s.log o.log o.steps.call.work lone unbuilt o.steps.next.work n
        (subst (λ (p : Progress). StepLawIn s.epoch s.columns s.tree o.tree s.log o.log (request_of o.steps.call.work) (held o.steps.call.work) p (held o.steps.next.work) (IsTrue s.columns o.steps.call.work) (IsTrue s.columns o.steps.next.work)) e o.steps.made.law)
        o.steps.made.same_request (subst (λ (p : Progress). WorkFollows s.tree s.log o.steps.call.work p o.steps.next.work) e o.steps.made.follows) (subst (λ (p : Progress). WorkBuilds s.tree s.log o.steps.call.work p o.steps.next.work) e o.steps.made.goes_on) o.steps.made.read (subst (λ (p : Progress). WorkPosts s.tree o.tree o.steps.call.work p o.steps.next.work) e o.steps.made.posts))
    comes_by (Answered answer) e = ended
    comes_by (EndsProgress refusal) e = ended

    comes_open : ComesTo s runs.call.work number made outcome t
    comes_open =
        subst (λ (out : Outcome). ComesTo s runs.call.work number made out t) (sym (o.is_outcome))
        (subst (λ (m : MachineView). ComesTo s runs.call.work number made (outcome_of number o.pass o.from (newest o.log) o.p) m) (sym o.is_next) (comes_by o.p refl))

  comes_built : (outcome : Outcome) → EndsBuild s number outcome t → ComesTo s runs.call.work number made outcome t
  comes_built outcome ends = elim ends.comes [
    | inl opens ↦ subst (λ (out : Outcome). ComesTo s runs.call.work number made out t) (sym opens.is_outcome) (subst (λ (m : MachineView). IsIdle m) (sym opens.is_next) left_none)
    | inr not_ ↦ subst (λ (out : Outcome). ComesTo s runs.call.work number made out t) (sym not_.is_outcome) (subst (λ (m : MachineView). IsIdle m) (sym not_.is_next) left_none)
  ]
    where
      left_none : without number s.calls.calls ≡ []
      left_none = ap (without number) runs.only ∙ one_without number runs.call

  pub comes : (outcome : Outcome) → Steps s number outcome t → ComesTo s runs.call.work number made outcome t
  comes outcome (inl none) = absurd (let clash : ◌≡◌ {A = Option Call} (Some runs.call) None = sym there ∙ none.0 in cc)
  comes outcome (inr (inl o)) = comes_open outcome o
  comes outcome (inr (inr ends)) = comes_built outcome ends

-- ---- from its begin to its end
nothing_paired : (R : ℕ × Call → OpenCall → Type 0) (low high : ℕ) (calls : List OpenCall) → Paired R low high [] calls → calls ≡ []
nothing_paired R low high [] paired = refl
nothing_paired R low high (call ∷ calls) paired = absurd paired

-- so the history has no open call either
none_open : (s : MachineView) → IsIdle s → (h : History) → Stands s h → (moment h).calls ≡ []
none_open s idle h stands = nothing_paired (CallStands s.columns s.epoch s.tree stands.w h) 0 s.calls.begun (moment h).calls
    (subst (λ (l : List (ℕ × Call)). Paired (CallStands s.columns s.epoch s.tree stands.w h) 0 s.calls.begun l (moment h).calls) idle stands.calls)

-- it is a get that asks for a get
asks_get : (work : Work) (key asked : List ℕ) → request_of work ≡ GetRequest key asked → IsGet work
asks_get (Get own) key asked is = tt
asks_get (Write write) key asked is = edit_asks write.key write.edit key asked is
  where
    edit_asks : (own : List ℕ) (edit : Edit) (key asked : List ℕ) → edit_request own edit ≡ GetRequest key asked → ⊥
    edit_asks own (Put sets None) key asked is = let clash : PutRequest own sets ≡ GetRequest key asked = is in cc
    edit_asks own (Put sets (Some version)) key asked is = let clash : PutIfRequest own sets version ≡ GetRequest key asked = is in cc
    edit_asks own Remove key asked is = let clash : RemoveRequest own ≡ GetRequest key asked = is in cc
asks_get (Range range) key asked is = absurd (let clash : RangeRequest range.start range.limit range.columns ≡ GetRequest key asked = is in cc)
asks_get (Tidy tidy) key asked is = absurd (let clash : TidyRequest tidy.key ≡ GetRequest key asked = is in cc)
asks_get (Build building) key asked is = absurd (let clash : BuildRequest building.build.state.spec ≡ GetRequest key asked = is in cc)

-- a call of this request runs alone on a machine since it was this one
pub record RunsFrom (begun s : MachineView) (request : Request) (number : CallNo) : Type 0 where
  pub made : ℕ
  pub runs : IsRunning s number.0 made
  pub asks : request_of runs.call.work ≡ request
  pub reads : IsGet runs.call.work → s.tree ≡ begun.tree
  pub columns : s.columns ≡ begun.columns
  pub unfaulted : fault_of begun request ≡ None
  pub numbered : number ≡ record { 0 = begun.calls.begun + 1 }
  pub since : (h : History) → Stands begun h → (past : History) × Stands s past × (run : RunsAlone request number h past) × (run.pass ≡ pass_0) × (length run.steps ≡ made)

pub runs_from_begin : LoneLaws → (s t : MachineView) (request : Request) (number : CallNo) → IsIdle s → (h : History) → Stands s h → Begins s pass_0 request (Called number) t → RunsFrom s t request number
runs_from_begin laws s t request number idle h st begins =
    let (runs, asks, same) = begins_running laws s t h pass_0 request number idle st begins in
    record {
      made = 0;
      runs = runs;
      asks = asks;
      reads = λ is. same;
      unfaulted = begins.0;
      numbered = begins.1;
      columns = begins-columns s t pass_0 request (Called number) begins;
      since = λ past stands. (
        happening (Begin pass_0 request) (Called number) 0 ∷ past,
        begins-stands s t pass_0 request (Called number) past begins stands,
        record { nothing_open = none_open s idle past stands; pass = pass_0; note = 0; steps = []; are_steps = tt; is_past = refl },
        refl,
        refl,
      );
    }

get_before : (work new : Work) → request_of new ≡ request_of work → IsGet new → IsGet work
get_before work (Get own) equal is = asks_get work own.key own.columns (sym equal)
get_before work _ equal is = absurd is

runs_on : (begun s t : MachineView) (request : Request) (number : CallNo) (outcome : Outcome) → (from : RunsFrom begun s request number) → Steps s number.0 outcome t → GoesOnBy outcome
    → GoesFurther s from.runs.call.work number.0 from.made t → RunsFrom begun t request number
runs_on begun s t request number outcome from steps goes further = record {
  made = from.made + 1;
  runs = further.runs;
  asks = further.asks ∙ from.asks;
  reads = λ is. let before = get_before from.runs.call.work further.runs.call.work further.asks is in further.reads before ∙ from.reads before;
  columns = steps-columns s t number.0 outcome steps ∙ from.columns;
  unfaulted = from.unfaulted;
  numbered = from.numbered;
  since = λ h stands.
      let (past, there, alone, zero, many) = from.since h stands in
      let (opens, stood) = steps-stand s t number.0 outcome past steps there in (
        happening (Step number) outcome opens ∷ past,
        stood,
        record {
          nothing_open = alone.nothing_open;
          pass = alone.pass;
          note = alone.note;
          steps = happening (Step number) outcome opens ∷ alone.steps;
          are_steps = (refl, goes, alone.are_steps);
          is_past = ap (λ (l : History). happening (Step number) outcome opens ∷ l) alone.is_past;
        },
        zero,
        (let one : length (happening (Step number) outcome opens ∷ alone.steps) ≡ length alone.steps + 1 = omega arith in one ∙ ap (λ (n : ℕ). n + 1) many),
      );
}

-- a get has made few steps for each node that there was at its begin
is_short : (begun s : MachineView) (request : Request) (number : CallNo) → (from : RunsFrom begun s request number) → IsShort request (occupied begun.tree.nodes) (from.made + 1)
is_short begun s (GetRequest key asked) number from =
    let get = asks_get from.runs.call.work key asked from.asks in
    let few = lone_get_steps s.columns s.epoch from.made s.tree (newest s.log) from.runs.call.work from.runs.lone get in
    subst (λ (a : ArenaView). from.made + 1 ≤ MAX_READS * occupied a.nodes) (from.reads get) (omega (arith, few))
is_short begun s _ number from = tt

pub answers_plainly : (begun s t : MachineView) (request : Request) (number : CallNo) (reply : Reply) → RunsFrom begun s request number → Steps s number.0 (Done reply) t → AnswersPlainly begun request reply t
answers_plainly begun s t request number reply from steps h stands =
    let (past, there, alone, zero, many) = from.since h stands in
    let (opens, stood) = steps-stand s t number.0 (Done reply) past steps there in
    let after = happening (Step number) (Done reply) opens ∷ past in
    numbered_so number from.numbered after stood
    (record { past = past; run = alone; same_pass = zero; note = opens; is_after = refl })
    (subst (λ (p : PassNo). EndsPlainly begun.columns h p number request reply (moment after)) zero
    (subst (λ (C : ℕ). EndsPlainly C h alone.pass number request reply (moment after)) (steps-columns s t number.0 (Done reply) steps ∙ from.columns)
    (lone_calls_are_plain t.columns request number reply opens h past alone stood.legal)))
    (subst (λ (n : ℕ). IsShort request (occupied begun.tree.nodes) (n + 1)) (sym many) (is_short begun s request number from))
  where
    numbered_so : (own : CallNo) → own ≡ next_call begun → (later : History) → Stands t later → (ran : RunsThrough pass_0 own request h (Done reply) later) → EndsPlainly begun.columns h pass_0 own request reply (moment later)
        → IsShort request (occupied begun.tree.nodes) (length ran.run.steps + 1) → AnswersFrom begun h request reply t
    numbered_so own is = subst (λ (n : CallNo). (later : History) → Stands t later → (ran : RunsThrough pass_0 n request h (Done reply) later) → EndsPlainly begun.columns h pass_0 n request reply (moment later)
        → IsShort request (occupied begun.tree.nodes) (length ran.run.steps + 1) → AnswersFrom begun h request reply t) (sym is)
        (λ later stood ran plain short. record { then = later; stands = stood; ran = ran; plain = plain; short = short })

pub refuses_plainly : (begun s t : MachineView) (request : Request) (number : CallNo) (refusal : Refusal) → RunsFrom begun s request number → Steps s number.0 (Refused refusal) t → RefusesPlainly begun request refusal t
refuses_plainly begun s t request number refusal from steps h stands =
    let (past, there, alone, zero, many) = from.since h stands in
    let (opens, stood) = steps-stand s t number.0 (Refused refusal) past steps there in
    let after : History = happening (Step number) (Refused refusal) opens ∷ past in
    let through : (ran : RunsThrough pass_0 (next_call begun) request h (Refused refusal) after) × IsShort request (occupied begun.tree.nodes) (length ran.run.steps + 1) =
    subst (λ (n : CallNo). (ran : RunsThrough pass_0 n request h (Refused refusal) after) × IsShort request (occupied begun.tree.nodes) (length ran.run.steps + 1)) from.numbered (
      record { past = past; run = alone; same_pass = zero; note = opens; is_after = refl },
      subst (λ (n : ℕ). IsShort request (occupied begun.tree.nodes) (n + 1)) (sym many) (is_short begun s request number from),
    ) in
    record {
      then = after;
      stands = stood;
      ran = inr through.0;
      short = through.1;
      nothing = subst (λ (C : ℕ). EndsRefused C h request refusal (moment after)) (steps-columns s t number.0 (Refused refusal) steps ∙ from.columns) (lone_refusals_do_nothing t.columns request number refusal opens h past alone stood.legal);
    }

-- or its begin is refused
pub begin_refuses_plainly : (s : MachineView) (request : Request) (refusal : Refusal) → IsIdle s → Begins s pass_0 request (Refused refusal) s → RefusesPlainly s request refusal s
begin_refuses_plainly s request refusal idle begins h stands = record {
  then = happening (Begin pass_0 request) (Refused refusal) 0 ∷ h;
  stands = begins-stands s s pass_0 request (Refused refusal) h begins stands;
  ran = inl refl;
  short = tt;
  nothing = record { plain = turned_away_plainly s.columns h pass_0 request refusal 0 (begins-stands s s pass_0 request (Refused refusal) h begins stands).legal.1; commits = refl; views = refl; closed = none_open s idle h stands };
}

-- a step comes to nothing else
pub never_else : (s t : MachineView) (work : Work) (number made : ℕ) (outcome : Outcome) → ComesTo s work number made outcome t → (outcome ≡ Moved → ⊥) → ((commit : ℕ) → outcome ≡ Commit commit → ⊥) → ((reply : Reply) → outcome ≡ Done reply → ⊥)
    → ((refusal : Refusal) → outcome ≡ Refused refusal → ⊥) → ⊥
never_else s t work number made Moved came moved commit done refused = moved refl
never_else s t work number made (Commit n) came moved commit done refused = commit n refl
never_else s t work number made (Done reply) came moved commit done refused = done reply refl
never_else s t work number made (Refused refusal) came moved commit done refused = refused refusal refl
never_else s t work number made _ came moved commit done refused = absurd came

-- by which the call has gone on
abbrev pub HasMoved : Outcome → Type 0
HasMoved outcome = (outcome ≡ Moved) ⊎ ((commit : ℕ) × (outcome ≡ Commit commit))

pub came : LoneLaws → (begun s t : MachineView) (request : Request) (number : CallNo) (outcome : Outcome) → (from : RunsFrom begun s request number) → Steps s number.0 outcome t → ComesTo s from.runs.call.work number.0 from.made outcome t
came laws begun s t request number outcome from steps = comes laws s t number.0 from.made from.runs outcome steps

pub went_on : LoneLaws → (begun s t : MachineView) (request : Request) (number : CallNo) (outcome : Outcome) → HasMoved outcome → RunsFrom begun s request number → Steps s number.0 outcome t
    → RunsFrom begun t request number × (machine_left t < machine_left s)
went_on laws begun s t request number outcome (inl moved) from steps =
    let made = subst (λ (o : Outcome). Steps s number.0 o t) moved steps in
    let further = came laws begun s t request number Moved from made in
    (runs_on begun s t request number Moved from made tt further, further.falls)
went_on laws begun s t request number outcome (inr (commit, committed)) from steps =
    let made = subst (λ (o : Outcome). Steps s number.0 o t) committed steps in
    let further = came laws begun s t request number (Commit commit) from made in
    (runs_on begun s t request number (Commit commit) from made tt further, further.falls)

-- ---- reads of an idle machine
-- what a range reads are the pairs of the rows
module _ (s : MachineView) (h : History) (st : Stands s h) (asked : List ℕ) where
  abbrev map : Rows
  map = rows s.columns (moment h)

  shows_so : (key : List ℕ) (value : Row) → AreBytes key → Stood (shown asked) (arena_seen s.tree ∷ []) (place_of key) value → ShowsRow map asked key value
  shows_so key value bytes (inl (row, has, is)) = (row, (st.content key bytes row).0 has, sym is)
  shows_so key value bytes (inr never) = absurd never

  all_shown : (pairs : List (List ℕ × Row)) → KeysAreBytes pairs → All (λ (pair : List ℕ × Row). Stood (shown asked) (arena_seen s.tree ∷ []) (place_of pair.0) pair.1) pairs
      → All (λ (pair : List ℕ × Row). ShowsRow map asked pair.0 pair.1) pairs
  all_shown [] bytes all = All-nil (λ (pair : List ℕ × Row). ShowsRow map asked pair.0 pair.1)
  all_shown (pair ∷ pairs) bytes all =
      All-cons (λ (p : List ℕ × Row). ShowsRow map asked p.0 p.1) pair pairs
      (shows_so pair.0 pair.1 bytes.0 (All-head (λ (p : List ℕ × Row). Stood (shown asked) (arena_seen s.tree ∷ []) (place_of p.0) p.1) pair pairs all))
      (all_shown pairs bytes.1 (All-tail (λ (p : List ℕ × Row). Stood (shown asked) (arena_seen s.tree ∷ []) (place_of p.0) p.1) pair pairs all))

  stands_so : (key : List ℕ) (found : Option Row) → get map key ≡ found → IsSome found → AreBytes key × AllHave (arena_seen s.tree ∷ []) (place_of key)
  stands_so key None e some = absurd (let clash : false ≡ true = some in cc)
  stands_so key (Some row) e some = let bytes = st.keys key row e in (bytes, ((row, (st.content key bytes row).1 e), tt))

  pub read_range : (start : List ℕ) (limit : ℕ) (pairs : List (List ℕ × Row)) → IsRightNow s.tree (RangeRequest start limit asked) (RowsAnswer pairs) → IsRangeOfMap map asked start limit pairs
  read_range start limit pairs right = record {
    rises = right.answers.rises;
    from_start = right.answers.from_start;
    few = right.answers.few;
    stood = all_shown pairs right.bytes right.answers.stood;
    once = λ key from there enough. right.answers.once key from (stands_so key (get map key) refl there) enough;
  }
