-- Runs of a put or remove: what a step leaves for the next one, and runs that grow.
use Rattle.std.proofs.Common.{ℕ, ◌≡◌, ◌≤◌, ◌+◌, ◌-◌, ◌∙◌, min, max, List, [], ◌∷◌, ◌++◌, length, drop, refl, sym, ap, subst, arith}
use Rattle.std.specs.Prelude.{sum_by}
use Rattle.std.proofs.lemmas.List.{length-append}
use Rattle.std.proofs.lemmas.List.Elements.{All-append, All-nil, All-push}
use Rattle.std.proofs.lemmas.List.Sums.{sum_by-append}
use Rattle.mt_types.specs.declared.row.Delta.{Delta}
use Rattle.mt_types.specs.declared.event.Request.{Request}
use Rattle.mt_commit.specs.Log.{LogView, IsLog, newest, trimmed, kept_after}
use Rattle.mt_types.specs.Numbers.{least}
use Rattle.mt_arena.specs.Arena.{ArenaView, IsArena}
use Rattle.mt_chart.specs.Tree.{Arena}
use Rattle.mt_tree.specs.Seen.{arena_seen}
use Rattle.mt_steps.specs.declared.progress.Progress.{Progress}
use Rattle.mt_steps.specs.declared.progress.Progress.TheVariants.{Moved, Waits, Committed, Answered, Refused}
use Rattle.mt_steps.specs.World.{World}
use Rattle.mt_steps.specs.Step.{Held, IsQuiet, Does, MayStep, Stepped, ThenTrue, bounds, left_with}
use Rattle.mt_write.specs.declared.running.WriteRun.{WriteRun}
use Rattle.mt_write.specs.declared.writing.Write.{Write}
use Rattle.mt_write.specs.Held.{write_held, write_request}
use Rattle.mt_write.specs.Writing.{WriteIsTrue}
use Rattle.mt_write.specs.Follows.{WriteStep}
use Rattle.mt_write.specs.Runs.{Advances, HasRun, IsTrimmed, MayRun, RunStep, RunSteps, Running, WriteState, commits_in}

-- ---- the log
-- what trimming leaves is trimmed
pub twice_trimmed : (log : LogView) → newest (trimmed log) ≡ newest log → IsTrimmed (trimmed log)
twice_trimmed log same = ap (λ (n : ℕ). min (least n log.holders) (kept_after log n)) same

-- a log that is trimmed is what trimming it leaves
pub stays_trimmed : (log : LogView) → IsTrimmed log → log ≡ trimmed log
stays_trimmed log is =
    let none : log.held_after - log.held_after ≡ 0 = omega arith in
    sym (ap (λ (n : ℕ). record log { held_after = n; deltas = drop (n - log.held_after) log.deltas }) is
    ∙ ap (λ (n : ℕ). record log { deltas = drop n log.deltas }) none)

-- and so is one that has the same deltas, and that the same readers hold
same_trimmed : (log left : LogView) → left.held_after ≡ log.held_after → left.deltas ≡ log.deltas → bounds left ≡ bounds log → IsTrimmed log → IsTrimmed left
same_trimmed log left held deltas same is =
    ap (λ (h : ℕ). min (least (h + length left.deltas) left.holders) (kept_after left (h + length left.deltas))) held
    ∙ ap (λ (ds : List Delta). min (least (log.held_after + length ds) left.holders) (kept_after left (log.held_after + length ds))) deltas
    ∙ ap (λ (b : List ℕ × ℕ × ℕ × ℕ). min (least (newest log) b.0) (max b.3 (newest log - b.2))) same ∙ is ∙ sym held

-- ---- a step
quiet_unless : (C : ℕ) (past : List Arena) (a after : ArenaView) (log left : LogView) (request : Request) (held then : Held) (p : Progress) → Does C past a after log left request held.committed p then.committed → commits_in p ≡ 0 → IsQuiet a after log left
quiet_unless C past a after log left request held then (Committed number) does none = absurd (let clash : ◌≡◌ {A = ℕ} 1 0 = none in cc)
quiet_unless C past a after log left request held then _ does none = does.0

then_true : (p : Progress) → Advances p → (moves : ℕ) (True : ℕ → World → Type 0) (w : World) → ThenTrue p moves True w → (m : ℕ) × True m w
then_true Moved on moves True w then = (moves + 1, then)
then_true (Committed number) on moves True w then = (0, then)
then_true Waits on moves True w then = absurd on
then_true (Answered answer) on moves True w then = absurd on
then_true (Refused refusal) on moves True w then = absurd on

left_on : (p : Progress) → Advances p → (then : Held) → left_with p then ≡ then
left_on Moved on then = refl
left_on (Committed number) on then = refl
left_on Waits on then = absurd on
left_on (Answered answer) on then = absurd on
left_on (Refused refusal) on then = absurd on

module _ (C : ℕ) (s : WriteState) (may : MayRun C s) where
  pub may_step : MayStep s.tree s.log (write_held s.write) (WriteIsTrue C s.write)
  may_step = record { now = may.now; begun = may.begun; moves = may.moves; past = may.past; w = may.w; world = may.world; true = may.true; room = may.room }

  module _ (after : ArenaView) (left : LogView) (p : Progress) (then : Write) (step : WriteStep C s.tree after s.log left s.write s.write.stage p then) where
    stepped : Stepped C may.now may.moves may.past s.tree after s.log left may.w (write_request s.write) (write_held s.write) p (write_held then) (λ m next. WriteIsTrue C then may.begun m (arena_seen s.tree ∷ may.past) after next)
    stepped = step.law.steps may.now may.begun may.moves may.past may.w may.world may.since may.true

    -- unless it commits, it leaves nothing to trim
    pub left_trimmed : IsTrimmed s.log → commits_in p ≡ 0 → IsTrimmed left
    left_trimmed is none =
        let quiet = quiet_unless C may.past s.tree after s.log left (write_request s.write) (write_held s.write) (write_held then) p stepped.does none in
        same_trimmed s.log left quiet.trimmed quiet.deltas stepped.bounds is

    pub run_step : (log : LogView) → log ≡ trimmed left → IsLog left → IsArena s.tree → IsArena after → RunStep C s p (record { tree = after; log = log; write = then })
    run_step log trims sound arena arena_after = record { log = left; step = step; sound = sound; bounds = stepped.bounds; trims = trims; arena = arena; arena_after = arena_after }

    -- and if the call continues, the next step may be made
    pub may_again : Advances p → (log : LogView) → log ≡ trimmed left → MayRun C (record { tree = after; log = log; write = then })
    may_again on log trims =
        let (moves, true) = then_true p on may.moves (λ m next. WriteIsTrue C then may.begun m (arena_seen s.tree ∷ may.past) after next) stepped.goes.next stepped.goes.true in
        record {
          now = may.now;
          begun = may.begun;
          moves = moves;
          past = arena_seen s.tree ∷ may.past;
          w = stepped.goes.next;
          world = stepped.goes.world;
          since = may.since;
          true = true;
          room =
              let all = stepped.reserved in
              let same : (left_with p (write_held then)).reserves ≡ (write_held then).reserves = ap (λ (h : Held). h.reserves) (left_on p on (write_held then)) in
              let kept : log.reserved ≡ left.reserved = ap (λ (g : LogView). g.reserved) trims in
              let room = may.room in
              omega (arith, all, same, kept, room);
        }

-- ---- a run so far
run_more : (C : ℕ) (s m t : WriteState) (ps : List Progress) (p : Progress) → RunSteps C s ps m → RunStep C m p t → RunSteps C s (ps ++ p ∷ []) t
run_more C s m t [] p same more = (t, subst (λ (x : WriteState). RunStep C x p t) same more, refl)
run_more C s m t (q ∷ ps) p (next, one, rest) more = (next, one, run_more C next m t ps p rest more)

run_all : (C : ℕ) (s m t : WriteState) (ps qs : List Progress) → RunSteps C s ps m → RunSteps C m qs t → RunSteps C s (ps ++ qs) t
run_all C s m t [] qs same more = subst (λ (x : WriteState). RunSteps C x qs t) same more
run_all C s m t (p ∷ ps) qs (next, one, rest) more = (next, one, run_all C next m t ps qs rest more)

-- a run after which the call continues makes it longer
pub runs_further : (C : ℕ) (s m t : WriteState) (steps commits : ℕ) (part : WriteRun) → Running C s steps commits m → HasRun C m part t → Advances part.last → Running C s (steps + part.steps) (commits + part.commits) t
runs_further C s m t steps commits part running run on =
    let ps = run.steps ++ part.last ∷ [] in
    let many = length-append running.done ps in
    let own = length-append run.steps (part.last ∷ []) in
    let whole = sum_by-append commits_in running.done ps in
    let most = sum_by-append commits_in run.steps (part.last ∷ []) in
    let a = running.many in
    let b = running.commits_are in
    let c = run.many in
    let d = run.commits in
    record {
      done = running.done ++ ps;
      advance = All-append Advances running.done ps running.advance (All-push Advances run.steps part.last run.advance on);
      are = run_all C s m t running.done ps running.are (run_more C m run.before t run.steps part.last run.are run.last);
      many = omega (arith, many, own, a, c);
      commits_are = omega (arith, whole, most, b, d);
    }

-- and so does another run so far
pub runs_on : (C : ℕ) (s m t : WriteState) (steps commits more others : ℕ) → Running C s steps commits m → Running C m more others t → Running C s (steps + more) (commits + others) t
runs_on C s m t steps commits more others one two =
    let many = length-append one.done two.done in
    let whole = sum_by-append commits_in one.done two.done in
    let a = one.many in
    let b = one.commits_are in
    let c = two.many in
    let d = two.commits_are in
    record {
      done = one.done ++ two.done;
      advance = All-append Advances one.done two.done one.advance two.advance;
      are = run_all C s m t one.done two.done one.are two.are;
      many = omega (arith, many, a, c);
      commits_are = omega (arith, whole, b, d);
    }

-- and with a run that ends, it is a run
pub ends_run : (C : ℕ) (s m t : WriteState) (steps commits : ℕ) (part : WriteRun) → Running C s steps commits m → HasRun C m part t → HasRun C s (record { steps = steps + part.steps; commits = commits + part.commits; last = part.last }) t
ends_run C s m t steps commits part running run =
    let many = length-append running.done run.steps in
    let whole = sum_by-append commits_in running.done run.steps in
    let a = running.many in
    let b = running.commits_are in
    let c = run.many in
    let d = run.commits in
    record {
      steps = running.done ++ run.steps;
      advance = All-append Advances running.done run.steps running.advance run.advance;
      before = run.before;
      are = run_all C s m run.before running.done run.steps running.are run.are;
      last = run.last;
      many = omega (arith, many, a, c);
      commits = omega (arith, whole, b, d);
    }

pub runs_none : (C : ℕ) (s : WriteState) → Running C s 0 0 s
runs_none C s = record { done = []; advance = All-nil Advances; are = refl; many = refl; commits_are = refl }

-- there are at most as many commits as steps
pub one_commit : (p : Progress) → commits_in p ≤ 1
one_commit (Committed number) = omega arith
one_commit Moved = omega arith
one_commit Waits = omega arith
one_commit (Answered answer) = omega arith
one_commit (Refused refusal) = omega arith

as_many : (ps : List Progress) → sum_by commits_in ps ≤ length ps
as_many [] = omega arith
as_many (p ∷ ps) = let a = one_commit p in let b = as_many ps in let whole = sum_by-append commits_in (p ∷ []) ps in omega (arith, a, b, whole)

pub few_commits : {C : ℕ} {s : WriteState} {steps commits : ℕ} {t : WriteState} → Running C s steps commits t → commits ≤ steps
few_commits running = let a = as_many running.done in let b = running.many in let c = running.commits_are in omega (arith, a, b, c)

pub run_commits : {C : ℕ} {s : WriteState} {run : WriteRun} {t : WriteState} → HasRun C s run t → run.commits ≤ run.steps
run_commits {C} {s} {run} run_is = let a = as_many run_is.steps in let b = one_commit run.last in let c = run_is.many in let d = run_is.commits in omega (arith, a, b, c, d)

-- a step is a run
pub one_step : (C : ℕ) (s t : WriteState) (commits : ℕ) (p : Progress) → RunStep C s p t → commits ≡ commits_in p → HasRun C s (record { steps = 1; commits = commits; last = p }) t
one_step C s t commits p step is = record {
  steps = [];
  advance = All-nil Advances;
  before = s;
  are = refl;
  last = step;
  many = refl;
  commits = omega (arith, is);
}
