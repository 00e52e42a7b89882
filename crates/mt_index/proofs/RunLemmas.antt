-- A put or remove that runs while no other call is open: its steps are those of the machine with this call open.
use Rattle.std.proofs.Common.{ℕ, ◌≡◌, ◌+◌, ◌∙◌, ◌==◌, inl, inr, min, Bool, true, false, List, [], ◌∷◌, ◌++◌, length, Option, Some, None, ◌≤◌, refl, sym, ap, subst, arith}
use Rattle.std.specs.Prelude.{All, sum_by}
use Rattle.std.proofs.lemmas.Bool.{eq-eqb, ne_eqb}
use Rattle.std.specs.Option.{option_map}
use Rattle.std.proofs.lemmas.List.Elements.{All-nil, All-head, All-tail, All-cons}
use Rattle.std.proofs.lemmas.List.Sums.{sum_by-cons}
use Rattle.mt_types.specs.declared.numbers.CallNo.{CallNo}
use Rattle.mt_types.specs.declared.numbers.PassNo.{PassNo}
use Rattle.mt_types.specs.declared.event.Request.{Request}
use Rattle.mt_types.specs.declared.event.Event.TheVariants.{Begin, Step}
use Rattle.mt_types.specs.declared.event.Outcome.{Outcome}
use Rattle.mt_types.specs.declared.event.Outcome.TheVariants.{Call as Called, Refused as RefusedOutcome}
use Rattle.mt_types.specs.Limited.{OutcomeIsLimited}
use Rattle.mt_promise.specs.History.{History, OpenCall, happening, moment}
use Rattle.mt_promise.specs.Legal.{reads_log, is_build, held_from}
use Rattle.mt_commit.specs.Log.{LogView, IsLog, newest, trimmed, kept_after}
use Rattle.mt_commit.proofs.LogLemmas.{newest-trimmed}
use Rattle.mt_steps.specs.declared.progress.Progress.{Progress}
use Rattle.mt_steps.specs.declared.progress.Progress.TheVariants.{Moved, Waits, Committed, Answered, Refused}
use Rattle.mt_steps.specs.Step.{Held}
use Rattle.mt_write.specs.declared.running.WriteRun.{WriteRun}
use Rattle.mt_write.specs.declared.writing.Write.{Write}
use Rattle.mt_write.specs.declared.writing.Edit.{Edit}
use Rattle.mt_write.specs.declared.writing.Edit.TheVariants.{Put as PutEdit}
use Rattle.mt_write.specs.Held.{edit_request, write_request}
use Rattle.mt_write.specs.Runs.{Advances, HasRun, IsTrimmed, MayRun, RunStep, RunSteps, WriteState, commits_in}
use Rattle.mt_works.specs.declared.work.Work.TheVariants.{Write as WriteWork}
use Rattle.mt_works.specs.Works.{IsNew}
use Rattle.mt_view.specs.Views.{ViewsView}
use Rattle.mt_index.specs.declared.calls.Call.{Call}
use Rattle.mt_index.specs.declared.running.Run.{Run}
use Rattle.mt_index.specs.declared.calling.CallRun.{CallRun}
use Rattle.mt_index.specs.declared.calling.CallRun.TheVariants.{Ran, Refused as RefusedRun}
use Rattle.mt_index.specs.Alone.{IsIdle}
use Rattle.mt_index.specs.Calls.{CallsView, StepsCall, StepsOneCall, IsBuiltCall, call_at, pass_at, with_changed, with_work, without}
use Rattle.mt_index.specs.Paired.{Paired}
use Rattle.mt_index.specs.Events.{EventDoes, GoesOnAtOnce, Makes, MakesSteps, commit_count}
use Rattle.mt_index.specs.Runs.{BeginsAndGoes, BeginsOrNot, CallGoes, RunIsLimited, StepsGo, has_ended}
use Rattle.mt_index.specs.Stands.{MachineView, CallStands, Stands, HasBounds, Begins, Steps, StepsOpen, calls_after, fault_of, log_after, outcome_of, pinned, placed, views_after}
use Rattle.mt_index.proofs.EventLemmas.{step-happens}
use Rattle.mt_index.proofs.BeginStands.{begins-stands}
use Rattle.mt_index.proofs.LimitedLemmas.{outcome-limited}
use Rattle.mt_index.proofs.LogStands.{slowest_is}
use Rattle.mt_index.proofs.MakesLemmas.{makes_begin}
use Rattle.mt_index.proofs.NumberLemmas.{Entries, call_at-here, call_at-there, changed-here, without-here}
use Rattle.mt_index.proofs.PairedLemmas.{Relation}
use Rattle.mt_index.proofs.ViewEvents.{steps-stand, steps-columns}

-- ---- a put or remove reads no log, and builds nothing
no_reader : (key : List ℕ) (edit : Edit) → reads_log (edit_request key edit) ≡ false
no_reader key (PutEdit sets None) = refl
no_reader key _ = refl

no_build : (key : List ℕ) (edit : Edit) → is_build (edit_request key edit) ≡ false
no_build key (PutEdit sets None) = refl
no_build key _ = refl

-- ---- what is left after a step that came to this
log_same : (from : ℕ) (p : Progress) (log : LogView) → log_after false from p log ≡ log
log_same from Moved log = refl
log_same from _ log = refl

views_same : (p : Progress) (views : ViewsView) → views ≡ views_after false p views
views_same Moved views = refl
views_same _ views = refl

-- an outcome and what the step came to
count_same : (number : ℕ) (pass : PassNo) (from to : ℕ) (p : Progress) → commit_count (outcome_of number pass from to p) ≡ commits_in p
count_same number pass from to Moved = refl
count_same number pass from to _ = refl

goes_on : (number : ℕ) (pass : PassNo) (from to : ℕ) (p : Progress) → Advances p → GoesOnAtOnce (outcome_of number pass from to p)
goes_on number pass from to Moved on = tt
goes_on number pass from to (Committed commit) on = tt
goes_on number pass from to _ on = absurd on

-- what the log has after it is trimmed
newest_after : (log left : LogView) → IsLog log → left ≡ trimmed log → newest left ≡ newest log
newest_after log left sound trims = ap newest trims ∙ newest-trimmed log (trimmed log).held_after (trimmed log).deltas sound refl refl

-- ---- the machine, while this call alone is open
module _ (s : MachineView) (pass : PassNo) where
  abbrev number : ℕ
  number = s.calls.begun + 1

  abbrev as_call : Write → Call
  as_call write = record { pass = pass; from = newest s.log; epoch = s.epoch; work = WriteWork write }

  abbrev pub with_calls : List (ℕ × Call) → WriteState → MachineView
  with_calls entries x = record { columns = s.columns; epoch = s.epoch; tree = x.tree; log = x.log; calls = record { begun = s.calls.begun + 1; calls = entries }; views = s.views }

  abbrev pub while_open : WriteState → MachineView
  while_open x = with_calls ((number, as_call x.write) ∷ []) x

  -- and after a step: it is open, or has ended
  abbrev pub entries_left : Progress → Write → List (ℕ × Call)
  entries_left (Answered answer) write = []
  entries_left (Refused refusal) write = []
  entries_left Moved write = (number, as_call write) ∷ []
  entries_left Waits write = (number, as_call write) ∷ []
  entries_left (Committed commit) write = (number, as_call write) ∷ []

  abbrev pub after_step : Progress → WriteState → MachineView
  after_step p x = with_calls (entries_left p x.write) x

  own : (number == number) ≡ true
  own = eq-eqb number number refl

  changed : (old new : Write) → with_changed (with_work (WriteWork new)) number ((number, as_call old) ∷ []) ≡ (number, as_call new) ∷ []
  changed old new = changed-here number (number, as_call old) [] own (with_work (WriteWork new))

  -- the calls after the step
  calls_same : (old new : Write) (p : Progress) → ◌≡◌ {A = CallsView} (record { begun = number; calls = entries_left p new }) (calls_after number p (record { begun = number; calls = with_changed (with_work (WriteWork new)) number ((number, as_call old) ∷ []) }))
  calls_same old new (Answered answer) = ap (λ (l : Entries). record { begun = number; calls = l }) (sym (ap (without number) (changed old new) ∙ without-here number (number, as_call new) [] own))
  calls_same old new (Refused refusal) = ap (λ (l : Entries). record { begun = number; calls = l }) (sym (ap (without number) (changed old new) ∙ without-here number (number, as_call new) [] own))
  calls_same old new _ = ap (λ (l : Entries). record { begun = number; calls = l }) (sym (changed old new))

  -- A STEP OF THE RUN IS ONE OF THE MACHINE
  module _ (x y : WriteState) (p : Progress) (r : RunStep s.columns x p y) where
    one : StepsOneCall s.epoch s.columns (as_call x.write) (as_call y.write) x.tree y.tree x.log r.log pass false false (newest s.log) p
    one = record {
      same_request = r.step.request;
      law = record { steps = r.step.law.steps s.epoch };
      goes_on = tt;
      waits = r.step.waits;
      fails = r.step.fails;
      follows = r.step.follows;
      read = tt;
      posts = (r.step.head, r.step.posts, r.arena, r.arena_after, r.step.drops);
      same_call = refl;
      pass_is = refl;
      reads_is = sym (no_reader x.write.key x.write.edit);
      builds_is = sym (no_build x.write.key x.write.edit);
      from_is = refl;
    }

    abbrev calls_then : CallsView
    calls_then = record { begun = number; calls = with_changed (with_work (WriteWork y.write)) number ((number, as_call x.write) ∷ []) }

    in_calls : StepsCall s.epoch s.columns number (while_open x).calls calls_then x.tree y.tree x.log r.log pass false false (newest s.log) p
    in_calls = record { call = as_call x.write; is_open = call_at-here number (number, as_call x.write) [] own; next = as_call y.write; made = one; changed = refl }

    abbrev machine_of : LogView → CallsView → ViewsView → MachineView
    machine_of log calls views = record { columns = s.columns; epoch = s.epoch; tree = y.tree; log = log; calls = calls; views = views }

    steps_open : StepsOpen (while_open x) number (outcome_of number pass (newest s.log) (newest r.log) p) (after_step p y)
    steps_open = record {
      pass = pass;
      from = newest s.log;
      p = p;
      calls = calls_then;
      tree = y.tree;
      log = r.log;
      reads = false;
      builds = false;
      unbuilt = λ built. subst IsBuiltCall (call_at-here number (number, as_call x.write) [] own) built;
      steps = in_calls;
      sound = subst IsLog (sym (log_same (newest s.log) p r.log)) r.sound;
      is_outcome = refl;
      is_next =
          ap (λ (log : LogView). machine_of log (record { begun = number; calls = entries_left p y.write }) s.views) (r.trims ∙ ap trimmed (sym (log_same (newest s.log) p r.log)))
          ∙ ap (λ (calls : CallsView). machine_of (trimmed (log_after false (newest s.log) p r.log)) calls s.views) (calls_same x.write y.write p)
          ∙ ap (machine_of (trimmed (log_after false (newest s.log) p r.log)) (calls_after number p calls_then)) (views_same p s.views);
    }

    -- with the commits that there are after it
    pub steps_so : Steps (while_open x) number (outcome_of number pass (newest s.log) (newest y.log) p) (after_step p y)
    steps_so = subst (λ (to : ℕ). Steps (while_open x) number (outcome_of number pass (newest s.log) to p) (after_step p y)) (sym (newest_after r.log y.log r.sound r.trims)) (inr (inl steps_open))

    pub bounds_so : HasBounds x.log.capacity x.log.retention y.log
    bounds_so = (
      ap (λ (log : LogView). log.capacity) r.trims ∙ ap (λ (b : List ℕ × ℕ × ℕ × ℕ). b.1) r.bounds,
      ap (λ (log : LogView). log.retention) r.trims ∙ ap (λ (b : List ℕ × ℕ × ℕ × ℕ). b.2) r.bounds,
    )

  -- a step after which the call continues
  open_still : (p : Progress) → Advances p → (y : WriteState) → after_step p y ≡ while_open y
  open_still Moved on y = refl
  open_still (Committed commit) on y = refl
  open_still _ on y = absurd on

  -- so are steps one after the other
  pub record Going (x : WriteState) (ps : List Progress) (y : WriteState) : Type 0 where
    pub outcomes : List Outcome
    pub go_on : All GoesOnAtOnce outcomes
    pub steps : StepsGo (while_open x) (record { 0 = number }) outcomes (while_open y)
    pub many : length outcomes ≡ length ps
    pub commits : sum_by commit_count outcomes ≡ sum_by commits_in ps

  goes : (x y : WriteState) (ps : List Progress) → All Advances ps → RunSteps s.columns x ps y → Going x ps y
  goes x y [] on same = record { outcomes = []; go_on = All-nil GoesOnAtOnce; steps = ap while_open same; many = refl; commits = refl }
  goes x y (p ∷ ps) on (next, step, rest) =
      let further = goes next y ps (All-tail Advances p ps on) rest in
      let first = All-head Advances p ps on in
      let o : Outcome = outcome_of number pass (newest s.log) (newest next.log) p in
      let many = further.many in
      let here = count_same number pass (newest s.log) (newest next.log) p in
      let ours = sum_by-cons commit_count o further.outcomes in
      let theirs = sum_by-cons commits_in p ps in
      let rest_is = further.commits in
      record {
        outcomes = o ∷ further.outcomes;
        go_on = All-cons GoesOnAtOnce o further.outcomes (goes_on number pass (newest s.log) (newest next.log) p first) further.go_on;
        steps = (
          while_open next,
          subst (λ (m : MachineView). Steps (while_open x) number o m) (open_still p first next) (steps_so x next p step),
          bounds_so x next p step,
          further.steps,
        );
        many = omega (arith, many);
        commits = omega (arith, here, ours, theirs, rest_is);
      }

  -- ---- the begin of the call
  module _ (write : Write) (new : IsNew s.columns (newest s.log) (WriteWork write)) where
    abbrev pub at_first : WriteState
    at_first = record { tree = s.tree; log = s.log; write = write }

    abbrev begun_with : Bool → List (ℕ × Call) → Bool → MachineView
    begun_with reads others builds = record s { log = pinned reads s.log; calls = record { begun = number; calls = others ++ (number, as_call write) ∷ [] }; views = placed builds s.views }

    begins_so : (request : Request) → IsIdle s → fault_of s request ≡ None → write_request write ≡ request → Begins s pass request (Called (record { 0 = number })) (while_open at_first)
    begins_so request idle none asks = (
      none,
      refl,
      WriteWork write,
      asks,
      new,
      ap (λ (b : Bool). begun_with b [] false) (sym (no_reader write.key write.edit))
          ∙ ap (λ (others : Entries). begun_with (reads_log (write_request write)) others false) (sym idle)
          ∙ ap (begun_with (reads_log (write_request write)) s.calls.calls) (sym (no_build write.key write.edit)),
    )

    -- a run may be made of it
    pub may_run : (h : History) → Stands s h → MayRun s.columns at_first
    may_run h st = record {
      now = s.epoch;
      begun = s.epoch;
      moves = 0;
      past = [];
      w = st.w;
      world = st.world;
      since = omega arith;
      true = new.true s.tree s.epoch s.epoch st.w st.world;
      room = let none = ap (λ (h : Held). h.reserves) new.has in omega (arith, none);
    }

    -- A CALL THAT BEGINS AND RUNS
    pub begins_and_goes : (request : Request) (run : WriteRun) (y : WriteState) → IsIdle s → fault_of s request ≡ None → write_request write ≡ request → HasRun s.columns at_first run y
        → BeginsAndGoes s pass request (record { 0 = number }) (record { steps = run.steps; commits = run.commits; last = outcome_of number pass (newest s.log) (newest y.log) run.last }) (after_step run.last y)
    begins_and_goes request run y idle none asks has =
        let going = goes at_first has.before has.steps has.advance has.are in
        let many = going.many in
        let all = has.many in
        let counted = going.commits in
        let commits = has.commits in
        let last = count_same number pass (newest s.log) (newest y.log) run.last in
        record {
          begun = while_open at_first;
          begins = begins_so request idle none asks;
          begun_bounds = (refl, refl);
          outcomes = going.outcomes;
          go_on = going.go_on;
          before = while_open has.before;
          steps = going.steps;
          last = steps_so has.before y run.last has.last;
          last_bounds = bounds_so has.before y run.last has.last;
          many = omega (arith, many, all);
          commits = omega (arith, counted, commits, last);
        }

-- a log has nothing to trim while no step is under way
pub nothing_to_trim : (s : MachineView) (h : History) → Stands s h → IsTrimmed s.log
nothing_to_trim s h st =
    ap (λ (n : ℕ). min n (kept_after s.log (newest s.log))) (slowest_is s.log (moment h) st.commits st.held)
    ∙ ap (λ (n : ℕ). min (held_from (moment h)) (kept_after s.log n)) st.commits ∙ sym st.trimmed

-- ---- at the end the machine is at a history
go_stand : (s t : MachineView) (call : CallNo) (outcomes : List Outcome) → StepsGo s call outcomes t → (h : History) → Stands s h → (then : History) × Stands t then
go_stand s t call [] same h st = (h, subst (λ (m : MachineView). Stands m h) (sym same) st)
go_stand s t call (o ∷ os) (next, step, bounds, rest) h st =
    let (opens, then) = steps-stand s next call.0 o h step st in
    go_stand next t call os rest (happening (Step call) o opens ∷ h) then

module _ (s t : MachineView) (pass : PassNo) (request : Request) (call : CallNo) (run : Run) (goes : BeginsAndGoes s pass request call run t) where
  before_stands : (h : History) → Stands s h → (then : History) × Stands goes.before then
  before_stands h st = go_stand goes.begun goes.before call goes.outcomes goes.steps (happening (Begin pass request) (Called call) 0 ∷ h) (begins-stands s goes.begun pass request (Called call) h goes.begins st)

  pub run_stands : (h : History) → Stands s h → (then : History) × Stands t then
  run_stands h st =
      let (past, there) = before_stands h st in
      let (opens, then) = steps-stand goes.before t call.0 run.last past goes.last there in
      (happening (Step call) run.last opens ∷ past, then)

  pub run_limited : (h : History) → Stands s h → OutcomeIsLimited run.last
  run_limited h st =
      let (past, there) = before_stands h st in
      let (opens, then) = steps-stand goes.before t call.0 run.last past goes.last there in
      outcome-limited t past (Step call) run.last opens then

-- ---- and each step is an event that the machine makes
makes_step : (s t : MachineView) (call : CallNo) (o : Outcome) → Steps s call.0 o t → HasBounds s.log.capacity s.log.retention t.log → Makes s (Step call) o t
makes_step s t call o steps bounds = record {
  stands = λ h st. steps-stand s t call.0 o h steps st;
  happens = step-happens s t call o steps;
  columns = steps-columns s t call.0 o steps;
  bounds = bounds;
}

all_made : (s t : MachineView) (call : CallNo) (outcomes : List Outcome) → StepsGo s call outcomes t → MakesSteps s call outcomes t
all_made s t call [] same = same
all_made s t call (o ∷ os) (next, step, bounds, rest) = (next, makes_step s next call o step bounds, all_made next t call os rest)

pub call_goes : (s t : MachineView) (pass : PassNo) (request : Request) (call : CallNo) (run : Run) → BeginsAndGoes s pass request call run t → CallGoes s pass request (Ran call run) t
call_goes s t pass request call run goes = (
  goes.begun,
  makes_begin s goes.begun pass request (Called call) goes.begins goes.begun_bounds,
  record {
    outcomes = goes.outcomes;
    go_on = goes.go_on;
    before = goes.before;
    steps = all_made goes.begun goes.before call goes.outcomes goes.steps;
    last = makes_step goes.before t call run.last goes.last goes.last_bounds;
    many = goes.many;
    commits = goes.commits;
  },
)

pub or_goes : (s t : MachineView) (pass : PassNo) (request : Request) (called : CallRun) → BeginsOrNot s pass request called t → CallGoes s pass request called t
or_goes s t pass request (Ran call run) goes = call_goes s t pass request call run goes
or_goes s t pass request (RefusedRun refusal) begins = makes_begin s t pass request (RefusedOutcome refusal) begins (ap (λ (m : MachineView). m.log.capacity) begins.1, ap (λ (m : MachineView). m.log.retention) begins.1)

pub or_limited : (s t : MachineView) (pass : PassNo) (request : Request) (called : CallRun) → BeginsOrNot s pass request called t → (h : History) → Stands s h → RunIsLimited called
or_limited s t pass request (Ran call run) goes h st = run_limited s t pass request call run goes h st
or_limited s t pass request (RefusedRun refusal) begins h st = tt

-- ---- as the code leaves the machine
module _ (s : MachineView) (pass : PassNo) (idle : IsIdle s) where
  abbrev calls_with : List (ℕ × Call) → CallsView
  calls_with entries = record { begun = s.calls.begun + 1; calls = entries }

  -- the call has ended, and is only counted
  pub left_counted : (p : Progress) (y : WriteState) (calls : CallsView) → has_ended p ≡ true → calls ≡ record s.calls { begun = s.calls.begun + 1 } → calls_with (entries_left s pass p y.write) ≡ calls
  left_counted (Answered answer) y calls ended is = ap calls_with (sym idle) ∙ sym is
  left_counted (Refused refusal) y calls ended is = ap calls_with (sym idle) ∙ sym is
  left_counted _ y calls ended is = absurd (let clash : false ≡ true = ended in cc)

  -- or it is stored
  abbrev stored : Write → List (ℕ × Call)
  stored write = (s.calls.begun + 1, record { pass = pass; from = newest s.log; epoch = s.epoch; work = WriteWork write }) ∷ []

  pub left_stored : (p : Progress) (y : WriteState) (calls : CallsView) → has_ended p ≡ false → calls ≡ calls_with (s.calls.calls ++ stored y.write) → calls_with (entries_left s pass p y.write) ≡ calls
  left_stored (Answered answer) y calls open_ is = absurd (let clash : true ≡ false = open_ in cc)
  left_stored (Refused refusal) y calls open_ is = absurd (let clash : true ≡ false = open_ in cc)
  left_stored _ y calls open_ is = ap (λ (others : Entries). calls_with (others ++ stored y.write)) (sym idle) ∙ sym is

  -- a call that has begun and run, with the numbers that the code has read
  pub has_begun_and_run : (write : Write) (request : Request) (run : WriteRun) (y : WriteState) (number from to : ℕ) (calls : CallsView) → IsNew s.columns from (WriteWork write) → fault_of s request ≡ None → write_request write ≡ request → HasRun s.columns (record { tree = s.tree; log = s.log; write = write }) run y
      → number ≡ s.calls.begun + 1 → from ≡ newest s.log → to ≡ newest y.log → calls_with (entries_left s pass run.last y.write) ≡ calls
      → BeginsAndGoes s pass request (record { 0 = number }) (record { steps = run.steps; commits = run.commits; last = outcome_of number pass from to run.last }) (record { columns = s.columns; epoch = s.epoch; tree = y.tree; log = y.log; calls = calls; views = s.views })
  has_begun_and_run write request run y number from to calls new none asks has numbered began ended left =
      subst (λ (c : CallsView). BeginsAndGoes s pass request (record { 0 = number }) (record { steps = run.steps; commits = run.commits; last = outcome_of number pass from to run.last }) (record { columns = s.columns; epoch = s.epoch; tree = y.tree; log = y.log; calls = c; views = s.views })) left
      (subst (λ (n : ℕ). BeginsAndGoes s pass request (record { 0 = n }) (record { steps = run.steps; commits = run.commits; last = outcome_of n pass from to run.last }) (after_step s pass run.last y)) (sym numbered)
      (subst (λ (n : ℕ). BeginsAndGoes s pass request (record { 0 = s.calls.begun + 1 }) (record { steps = run.steps; commits = run.commits; last = outcome_of (s.calls.begun + 1) pass n to run.last }) (after_step s pass run.last y)) (sym began)
      (subst (λ (n : ℕ). BeginsAndGoes s pass request (record { 0 = s.calls.begun + 1 }) (record { steps = run.steps; commits = run.commits; last = outcome_of (s.calls.begun + 1) pass (newest s.log) n run.last }) (after_step s pass run.last y)) (sym ended)
      (begins_and_goes s pass write (subst (λ (n : ℕ). IsNew s.columns n (WriteWork write)) began new) request run y idle none asks has))))

-- a call that has begun and made one step
pub begun_one : (s m t : MachineView) (pass : PassNo) (request : Request) (call : CallNo) (o : Outcome) (commits : ℕ) → Begins s pass request (Called call) m → HasBounds s.log.capacity s.log.retention m.log → Steps m call.0 o t → HasBounds m.log.capacity m.log.retention t.log → commits ≡ commit_count o
    → BeginsAndGoes s pass request call (record { steps = 1; commits = commits; last = o }) t
begun_one s m t pass request call o commits begins bounds step then_bounds counted = record {
  begun = m;
  begins = begins;
  begun_bounds = bounds;
  outcomes = [];
  go_on = All-nil GoesOnAtOnce;
  before = m;
  steps = refl;
  last = step;
  last_bounds = then_bounds;
  many = omega arith;
  commits = omega (arith, counted);
}

-- ---- a call that has begun is of its pass
next_found : (R : Relation) (low high : ℕ) (ks : Entries) (cs : List OpenCall) (new : Call) → Paired R low high ks cs → (call_at (high + 1) (ks ++ (high + 1, new) ∷ []) ≡ Some new) × (low ≤ high)
next_found R low high [] [] new within = (call_at-here (high + 1) (high + 1, new) [] (eq-eqb (high + 1) (high + 1) refl), within)
next_found R low high (k ∷ ks) (c ∷ cs) new (below, is, stands, rest) =
    let (found, less) = next_found R c.number high ks cs new rest in
    (call_at-there (high + 1) k (ks ++ (high + 1, new) ∷ []) (ne_eqb k.0 (high + 1) (λ e. omega (arith, e, is, less))) ∙ found, omega (arith, below, less))
next_found R low high [] (c ∷ cs) new never = absurd never
next_found R low high (k ∷ ks) [] new never = absurd never

pub begun_pass : (s t : MachineView) (h : History) (pass : PassNo) (request : Request) (call : CallNo) → Stands s h → Makes s (Begin pass request) (Called call) t → pass_at call.0 t.calls.calls ≡ Some pass
unfolding EventDoes
begun_pass s t h pass request call st makes =
    let (none, numbered, work, asks, new, next) = makes.happens.does in
    let kept : Call = record { pass = pass; from = newest s.log; epoch = s.epoch; work = work } in
    ap (λ (m : MachineView). pass_at call.0 m.calls.calls) next
    ∙ ap (λ (n : CallNo). pass_at n.0 (s.calls.calls ++ (s.calls.begun + 1, kept) ∷ [])) numbered
    ∙ ap (λ (c : Option Call). option_map (λ (k : Call). k.pass) c) (next_found (CallStands s.columns s.epoch s.tree st.w h) 0 s.calls.begun s.calls.calls (moment h).calls kept st.calls).0
