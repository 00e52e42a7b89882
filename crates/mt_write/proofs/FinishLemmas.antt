-- What a run does at the border of its key, once it has read it, step by step: what is made ready, the commit, and the
-- unlock.
use Rattle.std.proofs.Common.{ℕ, ◌≡◌, ◌≤◌, ◌+◌, inl, inr, arith, Bool, not, Option, ◌∷◌, None, true, false, refl, sym, ap, subst}
use Rattle.std.specs.Prelude.{IsSomeAnd, cond}
use Rattle.mt_types.specs.declared.event.Answer.{Answer}
use Rattle.mt_types.specs.declared.event.Answer.TheVariants.{Absent as AbsentAnswer}
use Rattle.mt_commit.specs.Log.{LogView, IsLog, newest}
use Rattle.mt_border.specs.Border.{with_forgotten, with_inserting, with_unlocked}
use Rattle.mt_border.specs.Order.{IsBorder}
use Rattle.mt_arena.specs.Node.{border_at}
use Rattle.mt_arena.specs.Arena.{ArenaView, IsArena, with_border_changed}
use Rattle.mt_tree.specs.Keeping.{KeepsTree}
use Rattle.mt_steps.specs.declared.entering.There.{There}
use Rattle.mt_steps.specs.declared.progress.Progress.{Progress}
use Rattle.mt_steps.specs.declared.progress.Progress.TheVariants.{Moved, Committed, Answered}
use Rattle.mt_write.specs.declared.writing.Write.{Write}
use Rattle.mt_write.specs.declared.writing.Stage.{Stage}
use Rattle.mt_write.specs.declared.writing.Stage.TheVariants.{Seeks, Searched, Reserved, KeyWritten, Filled, Stored, Hidden, Forgets}
use Rattle.mt_write.specs.Held.{written_answer}
use Rattle.mt_write.specs.Writing.{FirstHeld, HasHidden, MayStage, StageIsTrue}
use Rattle.mt_write.specs.Follows.{FindsNone, IsSpentAt, TreeStep, WriteStep}
use Rattle.mt_write.specs.Runs.{Advances, CommitsAt, CommitsStage, HasForgotten, HasRun, InsertsAt, IsTrimmed, MayRun, RunStep, Running, commits_in, stage_after, state, steps_after}
use Rattle.mt_write.proofs.PostLemmas.{is_locked_border, is_written_border}
use Rattle.mt_border.specs.declared.unwritten.Unwritten.TheVariants.{Nothing}
use Rattle.mt_commit.specs.Log.{trimmed}
use Rattle.mt_steps.specs.World.{World, IsLockedBorder}
use Rattle.mt_tree.specs.Seen.{arena_seen}
use Rattle.mt_write.specs.declared.finishing.Committed.{Committed as AtCommit}
use Rattle.mt_write.proofs.RunLemmas.{ends_run, left_trimmed, may_again, may_step, one_step, run_step, runs_further, runs_none, runs_on, stays_trimmed, twice_trimmed}
use Rattle.mt_write.proofs.InsertLemmas.{key_there}
use Rattle.mt_write.proofs.StageSteps.{at_step, may_be, may_show, shows_row}
use Rattle.mt_border.specs.Border.{with_filled, with_shown}
use Rattle.mt_border.specs.Entry.{entry_with}
use Rattle.mt_border.specs.declared.unwritten.SlotKey.{SlotKey}
use Rattle.mt_commit.specs.Log.{with_delta}
use Rattle.mt_tree.specs.BorderSteps.{MayShowAt, ShowsNext}
use Rattle.mt_types.specs.declared.row.Row.{Row}
use Rattle.mt_write.specs.Ready.{WritesSlot, put_delta}
use Rattle.mt_write.specs.declared.writing.Halves.{Halves}
use Rattle.mt_write.specs.declared.writing.Insertion.{Insertion}
use Rattle.mt_write.proofs.LaterSteps.{ends_stored, forgets_row, leaves_hidden, marks_hidden, writes_key, writes_value}

-- a step from what is still the same
pub as_it_was : (C : ℕ) (a same after : ArenaView) (log kept left : LogView) (write : Write) (stage : Stage) (p : Progress) (then : Write) → (same ≡ a) × (kept ≡ log) → WriteStep C same after kept left write stage p then → WriteStep C a after log left write stage p then
as_it_was C a same after log kept left write stage p then (tree, logs) step = subst (λ (x : ArenaView). WriteStep C x after log left write stage p then) tree (subst (λ (l : LogView). WriteStep C same after l left write stage p then) logs step)

-- ---- a step on its way
module _ (C : ℕ) (a : ArenaView) (log : LogView) (write : Write) (may : MayRun C (state a log write)) (is_trimmed : IsTrimmed log) (idle : write.stage ≡ Seeks) (arena : IsArena a) (sound : IsLog log) (p : Progress) (then : Write) (step : TreeStep a a write Seeks p then) (none : commits_in p ≡ 0) where
  seeking : WriteStep C a a log log write write.stage p then
  seeking = subst (λ (st : Stage). WriteStep C a a log log write st p then) (sym idle) (step C log)

  pub sought : HasRun C (state a log write) (record { steps = 1; commits = 0; last = p }) (state a log then)
  sought = one_step C (state a log write) (state a log then) 0 p (run_step C (state a log write) may a log p then seeking log (stays_trimmed log is_trimmed) sound arena arena) (sym none)

  pub may_seek_on : Advances p → MayRun C (state a log then)
  may_seek_on on = may_again C (state a log write) may a log p then seeking on log (stays_trimmed log is_trimmed)

-- and one that leaves what is still the same
pub as_left : (C : ℕ) (a after last : ArenaView) (log left kept : LogView) (write : Write) (stage : Stage) (p : Progress) (next same : Stage) → (same ≡ next) × (last ≡ after) × (kept ≡ left) → WriteStep C a after log left write stage p (record write { stage = next }) → WriteStep C a last log kept write stage p (record write { stage = same })
as_left C a after last log left kept write stage p next same (stages, tree, logs) step = subst (λ (st : Stage). WriteStep C a last log kept write stage p (record write { stage = st })) (sym stages)
    (subst (λ (x : ArenaView). WriteStep C a x log kept write stage p (record write { stage = next })) (sym tree) (subst (λ (l : LogView). WriteStep C a after log l write stage p (record write { stage = next })) (sym logs) step))

-- what it may do, and what it finds, is so of what is still the same
pub as_may : (C : ℕ) (a same : ArenaView) (log kept : LogView) (write : Write) (stage : Stage) → (same ≡ a) × (kept ≡ log) → MayStage C a log write stage → MayStage C same kept write stage
as_may C a same log kept write stage (tree, logs) may = subst (λ (x : ArenaView). MayStage C x kept write stage) (sym tree) (subst (λ (l : LogView). MayStage C a l write stage) (sym logs) may)

pub as_none : (C : ℕ) (a same after : ArenaView) (log kept left : LogView) (write : Write) (there : There) → (same ≡ a) × (kept ≡ log) → FindsNone C same after kept left write there → FindsNone C a after log left write there
as_none C a same after log kept left write there (tree, logs) none = subst (λ (x : ArenaView). FindsNone C x after log left write there) tree (subst (λ (l : LogView). FindsNone C same after l left write there) logs none)

-- at the border that it has locked and read it has come to this stage, in `steps` steps
pub record ReadiedAt (C : ℕ) (a : ArenaView) (log : LogView) (write : Write) (there : There) (between : ArenaView) (reserved : LogView) (stage : Stage) (steps : ℕ) : Type 0 where
  pub running : Running C (state a log (record write { stage = Searched there })) steps 0 (state between reserved (record write { stage = stage }))
  pub may : MayRun C (state between reserved (record write { stage = stage }))
  pub trimmed : IsTrimmed reserved
  pub arena : IsArena between

-- ---- at the border that it has locked and read
module _ (C : ℕ) (a : ArenaView) (log : LogView) (write : Write) (there : There) (may : MayRun C (state a log (record write { stage = Searched there }))) where
  abbrev pub searched : Write
  searched = record write { stage = Searched there }

  module _ (is_trimmed : IsTrimmed log) (arena : IsArena a) where
    -- ---- there is no row to remove
    module _ (same : ArenaView) (left : LogView) (done : ArenaView) (none : FindsNone C a same log left write there) (end : done ≡ with_border_changed same write.way.node.0 with_unlocked) (kept : KeepsTree same done) (arena_done : IsArena done) (sound_left : IsLog left) where
      finds : WriteStep C a done log left searched (Searched there) (Answered AbsentAnswer) write
      finds = at_step C a done log left searched write.stage (Searched there) (Answered AbsentAnswer) write refl
          (none.1 done (subst (λ (x : ArenaView). done ≡ with_border_changed x write.way.node.0 with_unlocked) none.0 end) (subst (λ (x : ArenaView). KeepsTree x done) none.0 kept))

      pub trimmed_none : IsTrimmed left
      trimmed_none = left_trimmed C (state a log searched) may done left (Answered AbsentAnswer) write finds is_trimmed refl

      pub ends_none : HasRun C (state a log searched) (record { steps = 1; commits = 0; last = Answered AbsentAnswer }) (state done left write)
      ends_none = one_step C (state a log searched) (state done left write) 0 (Answered AbsentAnswer) (run_step C (state a log searched) may done left (Answered AbsentAnswer) write finds left (stays_trimmed left trimmed_none) sound_left arena arena_done) refl

    -- ---- it has made something ready
    module _ (mid : ArenaView) (left : LogView) (stage : Stage) (ready : WriteStep C a mid log left write (Searched there) Moved (record write { stage = stage })) where
      abbrev is_ready : Write
      is_ready = record write { stage = stage }

      readies : WriteStep C a mid log left searched (Searched there) Moved is_ready
      readies = at_step C a mid log left searched write.stage (Searched there) Moved is_ready refl ready

      pub trimmed_ready : IsTrimmed left
      trimmed_ready = left_trimmed C (state a log searched) may mid left Moved is_ready readies is_trimmed refl

      pub may_go_on : MayRun C (state mid left is_ready)
      may_go_on = may_again C (state a log searched) may mid left Moved is_ready readies tt left (stays_trimmed left trimmed_ready)

      pub may_commit : MayStage C mid left write stage
      may_commit = may_be C mid left is_ready write.stage stage refl (may_step C (state mid left is_ready) may_go_on)

      module _ (arena_mid : IsArena mid) (sound_left : IsLog left) where
        readies_step : RunStep C (state a log searched) Moved (state mid left is_ready)
        readies_step = run_step C (state a log searched) may mid left Moved is_ready readies left (stays_trimmed left trimmed_ready) sound_left arena arena_mid

        pub stops_ready : HasRun C (state a log searched) (record { steps = 1; commits = 0; last = Moved }) (state mid left is_ready)
        stops_ready = one_step C (state a log searched) (state mid left is_ready) 0 Moved readies_step refl

      module _ (arena_mid : IsArena mid) (sound_left : IsLog left) where
        pub readied_one : ReadiedAt C a log write there mid left stage 1
        readied_one = record {
          running = runs_further C (state a log searched) (state a log searched) (state mid left is_ready) 0 0 (record { steps = 1; commits = 0; last = Moved }) (runs_none C (state a log searched)) (stops_ready arena_mid sound_left) tt;
          may = may_go_on;
          trimmed = trimmed_ready;
          arena = arena_mid;
        }

    -- ---- it has committed
    module _ (after : ArenaView) (left : LogView) (committed : AtCommit) (at : CommitsAt C a after log left write there committed) (last : ArenaView) (more : ℕ) (forgotten : HasForgotten C after last left write committed more) where
      abbrev is_stored : Write
      is_stored = record write { stage = Stored committed.commit None }

      stored_border : IsLockedBorder last forgotten.may.w write.way.node.0
      stored_border = let holds = forgotten.may.true.0 in holds.locked write.way.node.0 holds.own

      pub stored_locked : IsSomeAnd (border_at last.nodes write.way.node.0) (λ x. x.version.locked ≡ true)
      stored_locked = is_locked_border last forgotten.may.w write.way.node.0 stored_border

      pub stored_written : IsSomeAnd (border_at last.nodes write.way.node.0) (λ x. x.unwritten ≡ Nothing)
      stored_written = is_written_border last forgotten.may.w write.way.node.0 stored_border

      -- it has dropped the row that it has hidden
      stored_run : Running C (state a log searched) (committed.steps + more) 1 (state last left is_stored)
      stored_run =
          let is_after : Write = record write { stage = stage_after committed } in
          let ran = runs_further C (state a log searched) (state a log searched) (state after left is_after) 0 0 (record { steps = committed.steps; commits = 1; last = Committed committed.commit }) (runs_none C (state a log searched)) at.run tt in
          let count : 0 + committed.steps + more ≡ committed.steps + more = omega arith in
          subst (λ (n : ℕ). Running C (state a log searched) n 1 (state last left is_stored)) count (runs_on C (state a log searched) (state after left is_after) (state last left is_stored) (0 + committed.steps) 1 more 0 ran forgotten.running)

      -- ---- and ends
      module _ (idle : write.stage ≡ Seeks) (done : ArenaView) (answer : Answer) (answer_is : answer ≡ written_answer write.edit committed.commit) (end : done ≡ with_border_changed last write.way.node.0 with_unlocked) (kept : KeepsTree last done) (arena_done : IsArena done) (sound_left : IsLog left) where
        stops : WriteStep C last done left left is_stored (Stored committed.commit None) (Answered answer) write
        stops = at_step C last done left left is_stored write.stage (Stored committed.commit None) (Answered answer) write refl (ends_stored last done write kept committed.commit None answer refl idle answer_is end C left)

        pub ends_run_stored : HasRun C (state a log searched) (record { steps = committed.steps + more + 1; commits = 1; last = Answered answer }) (state done left write)
        ends_run_stored =
            ends_run C (state a log searched) (state last left is_stored) (state done left write) (committed.steps + more) 1 (record { steps = 1; commits = 0; last = Answered answer }) stored_run
            (one_step C (state last left is_stored) (state done left write) 0 (Answered answer) (run_step C (state last left is_stored) forgotten.may done left (Answered answer) write stops left (stays_trimmed left at.trimmed) sound_left forgotten.arena arena_done) refl)

-- the stage after a commit
abbrev pub committed_at : Bool → ℕ → Stage
committed_at hides number = cond hides (Hidden number) (Stored number None)

-- ---- what it has made ready at the border that it has locked, step by step
module _ (C : ℕ) (a : ArenaView) (log : LogView) (write : Write) (there : There) (between : ArenaView) (reserved : LogView) (stage : Stage) (steps : ℕ) (ready : ReadiedAt C a log write there between reserved stage steps) where
  abbrev here : Write
  here = record write { stage = stage }

  pub may_next : MayStage C between reserved write stage
  may_next = may_be C between reserved here write.stage stage refl (may_step C (state between reserved here) ready.may)

  -- one more step
  module _ (next : ArenaView) (then : Stage) (step : WriteStep C between next reserved reserved write stage Moved (record write { stage = then })) (sound : IsLog reserved) (arena_next : IsArena next) where
    moves : WriteStep C between next reserved reserved here stage Moved (record write { stage = then })
    moves = at_step C between next reserved reserved here write.stage stage Moved (record write { stage = then }) refl step

    pub readied_more : ReadiedAt C a log write there next reserved then (steps + 1)
    readied_more = record {
      running = runs_further C (state a log (record write { stage = Searched there })) (state between reserved here) (state next reserved (record write { stage = then })) steps 0 (record { steps = 1; commits = 0; last = Moved }) ready.running
          (one_step C (state between reserved here) (state next reserved (record write { stage = then })) 0 Moved (run_step C (state between reserved here) ready.may next reserved Moved (record write { stage = then }) moves reserved (stays_trimmed reserved ready.trimmed) sound ready.arena arena_next) refl) tt;
      may = may_again C (state between reserved here) ready.may next reserved Moved (record write { stage = then }) moves tt reserved (stays_trimmed reserved ready.trimmed);
      trimmed = ready.trimmed;
      arena = arena_next;
    }

  -- the commit
  pub commits_ready : (hides : Bool) (after : ArenaView) (appended left : LogView) (number : ℕ) → WriteStep C between after reserved appended write stage (Committed number) (record write { stage = committed_at hides number }) → IsLog appended → IsArena after → left ≡ trimmed appended → newest left ≡ newest appended → steps + 1 + cond hides 2 0 ≤ 4
      → CommitsAt C a after log left write there (record { commit = number; steps = steps + 1; hides = hides })
  commits_ready hides after appended left number step sound arena_after trims same few =
      let stores = at_step C between after reserved appended here write.stage stage (Committed number) (record write { stage = committed_at hides number }) refl step in
      record {
        run = ends_run C (state a log (record write { stage = Searched there })) (state between reserved here) (state after left (record write { stage = committed_at hides number })) steps 0 (record { steps = 1; commits = 1; last = Committed number }) ready.running
            (one_step C (state between reserved here) (state after left (record write { stage = committed_at hides number })) 1 (Committed number) (run_step C (state between reserved here) ready.may after appended (Committed number) (record write { stage = committed_at hides number }) stores left trims sound ready.arena arena_after) refl);
        may = may_again C (state between reserved here) ready.may after appended (Committed number) (record write { stage = committed_at hides number }) stores tt left trims;
        trimmed = subst IsTrimmed (sym trims) (twice_trimmed appended (subst (λ (l : LogView). newest l ≡ newest appended) trims same));
        few = few;
      }

few_more : (hides : Bool) → 1 + 1 + cond hides 2 0 ≤ 4
few_more true = omega arith
few_more false = omega arith

-- what it commits from a stage that is ready, it commits since the lock
pub commits_since : (C : ℕ) (a : ArenaView) (log : LogView) (write : Write) (there : There) (between : ArenaView) (reserved : LogView) (stage : Stage) → ReadiedAt C a log write there between reserved stage 1 → (after : ArenaView) (appended left : LogView) (committed : AtCommit) → CommitsStage between after reserved appended write stage committed
    → IsLog reserved → IsLog appended → IsArena after → left ≡ trimmed appended → newest left ≡ newest appended → CommitsAt C a after log left write there committed
commits_since C a log write there between reserved stage ready after appended left committed c sound_reserved sound arena_after trims same = elim c.writes [
  | inl (tree_is, stage_is, two) ↦ subst (λ (n : ℕ). CommitsAt C a after log left write there (record { commit = committed.commit; steps = n; hides = committed.hides })) (sym two)
      (commits_ready C a log write there between reserved stage 1 ready committed.hides after appended left committed.commit
      (subst (λ (x : ArenaView). WriteStep C x after reserved appended write stage (Committed committed.commit) (record write { stage = stage_after committed })) tree_is (subst (λ (st : Stage). WriteStep C c.between after reserved appended write st (Committed committed.commit) (record write { stage = stage_after committed })) stage_is (c.commits C)))
      sound arena_after trims same (few_more committed.hides))
  | inr (i, four, not) ↦ (let keyed = readied_more C a log write there between reserved stage 1 ready i.keyed i.between (i.key C reserved) sound_reserved i.arena in
      let valued = readied_more C a log write there i.keyed reserved i.between 2 keyed c.between c.then (i.value C reserved) sound_reserved c.arena in
      subst (λ (n : ℕ). CommitsAt C a after log left write there (record { commit = committed.commit; steps = n; hides = committed.hides })) (sym four)
      (commits_ready C a log write there c.between reserved c.then 3 valued committed.hides after appended left committed.commit (c.commits C) sound arena_after trims same (subst (λ (h : Bool). 3 + 1 + cond h 2 0 ≤ 4) (sym not) (omega arith))))
]

-- what a run may do, it may do at the stage
pub at_may : (C : ℕ) (a : ArenaView) (log : LogView) (write : Write) (stage : Stage) → MayRun C (state a log (record write { stage = stage })) → MayStage C a log write stage
at_may C a log write stage may = may_be C a log (record write { stage = stage }) write.stage stage refl (may_step C (state a log (record write { stage = stage })) may)

pub stage_may : (a : ArenaView) (log : LogView) (write : Write) (stage : Stage) → (C : ℕ) × MayRun C (state a log (record write { stage = stage })) → (C : ℕ) × MayStage C a log write stage
stage_may a log write stage (C, may) = (C, at_may C a log write stage may)

-- after a step that leaves the log as it is
one_more : (C : ℕ) (a after : ArenaView) (log : LogView) (write : Write) (stage then : Stage) → MayRun C (state a log (record write { stage = stage })) → WriteStep C a after log log write stage Moved (record write { stage = then }) → MayRun C (state after log (record write { stage = then }))
one_more C a after log write stage then may step =
    let stepped = step.law.steps may.now may.begun may.moves may.past may.w may.world may.since may.true in
    record {
      now = may.now;
      begun = may.begun;
      moves = may.moves + 1;
      past = arena_seen a ∷ may.past;
      w = stepped.goes.next;
      world = stepped.goes.world;
      since = may.since;
      true = stepped.goes.true;
      room = let all = stepped.reserved in let room = may.room in omega (arith, all, room);
    }

-- once a new key and its row are written, the row may be shown
pub may_after : (C : ℕ) (a between : ArenaView) (log : LogView) (write : Write) (stage then : Stage) → MayRun C (state a log (record write { stage = stage })) → InsertsAt a between write stage then → MayRun C (state between log (record write { stage = then }))
may_after C a between log write stage then may i =
    one_more C i.keyed between log write i.between then (one_more C a i.keyed log write stage i.between may (i.key C log)) (i.value C log)

-- what is ready is committed at once
pub commits_once : (hides : Bool) (a after : ArenaView) (log left : LogView) (write : Write) (stage : Stage) (number : ℕ) → IsArena a → ((C : ℕ) → WriteStep C a after log left write stage (Committed number) (record write { stage = committed_at hides number }))
    → CommitsStage a after log left write stage (record { commit = number; steps = 2; hides = hides })
commits_once hides a after log left write stage number arena commits = record { between = a; then = stage; writes = inl (refl, refl, refl); arena = arena; commits = commits }

-- ---- a new key and its row are written and shown
module _ (a between : ArenaView) (log : LogView) (write : Write) (stage : Stage) (new : Insertion) (slot_key : SlotKey) (row : Row) (is : stage ≡ Reserved new slot_key row) (writes : WritesSlot a between write.way.node.0 slot_key row) (may : (C : ℕ) × MayRun C (state a log (record write { stage = stage }))) where
  inserts : InsertsAt a between write stage (Filled new.place new.key new.logged new.split)
  inserts =
      let truth = subst (λ (st : Stage). StageIsTrue may.0 write.key write.edit write.way st may.1.begun a may.1.w) is may.1.true.0 in
      let (b, at, p, f, k, has) = truth in
      record {
        between = KeyWritten new row;
        keyed = writes.keyed;
        key = subst (λ (st : Stage). TreeStep a writes.keyed write st Moved (record write { stage = KeyWritten new row })) (sym is) (writes_key a writes.keyed write new slot_key row writes.key writes.key_keeps writes.key_sound);
        value = writes_value writes.keyed between write new row
            (λ own there. subst (λ (k : SlotKey). between ≡ with_border_changed writes.keyed write.way.node.0 (λ x. with_filled x (entry_with k row))) (key_there a writes.keyed write.way.node.0 b slot_key at.named writes.key own there) writes.value)
            writes.value_keeps writes.value_sound;
        arena = writes.arena;
      }

  may_filled : MayStage may.0 between log write (Filled new.place new.key new.logged new.split)
  may_filled = at_may may.0 between log write (Filled new.place new.key new.logged new.split) (may_after may.0 a between log write stage (Filled new.place new.key new.logged new.split) may.1 inserts)

  pub may_show_written : IsSomeAnd (border_at between.nodes write.way.node.0) (λ b. (version : ℕ) → MayShowAt b new.place version)
  may_show_written = may_show between write log new.place new.key new.logged new.split (may.0, may_filled)

  pub commits_new : new.split ≡ None → IsArena between → (after : ArenaView) (left : LogView) (number : ℕ) → number ≡ newest log + 1 → after ≡ with_border_changed between write.way.node.0 (λ b. with_shown b new.place (newest log + 1)) → ShowsNext between after write.way.node.0 (newest log + 1)
      → left ≡ with_delta log (put_delta (newest log + 1) new.key None new.logged) → CommitsStage a after log left write stage (record { commit = number; steps = 4; hides = false })
  commits_new none arena after left number next shown shows appended = record {
    between = between;
    then = Filled new.place new.key new.logged new.split;
    writes = inr (inserts, refl, refl);
    arena = arena;
    commits = λ C. subst (λ (s : Option Halves). WriteStep C between after log left write (Filled new.place new.key new.logged new.split) (Committed number) (record write { stage = Stored number s })) none
        (shows_row C between after log left write new.place new.key new.logged new.split number next shown shows appended may_filled.room);
  }

-- ---- the row that it has hidden is dropped
module _ (C : ℕ) (log : LogView) (write : Write) (committed : AtCommit) (is_trimmed : IsTrimmed log) (sound : IsLog log) where
  abbrev after_commit : Write
  after_commit = record write { stage = stage_after committed }

  abbrev stored : Write
  stored = record write { stage = Stored committed.commit None }

  -- nothing was hidden
  pub forgets_none : (a : ArenaView) → IsArena a → committed.hides ≡ false → MayRun C (state a log after_commit) → HasForgotten C a a log write committed 0
  forgets_none a arena not may =
      let same : stage_after committed ≡ Stored committed.commit None = ap (λ (h : Bool). committed_at h committed.commit) not in
      record {
        running = subst (λ (st : Stage). Running C (state a log (record write { stage = st })) 0 0 (state a log stored)) (sym same) (runs_none C (state a log stored));
        may = subst (λ (st : Stage). MayRun C (state a log (record write { stage = st }))) same may;
        few = omega arith;
        arena = arena;
      }

  -- a step from a stage to a stage
  module _ (a after : ArenaView) (stage then : Stage) (may : MayRun C (state a log (record write { stage = stage }))) (step : TreeStep a after write stage Moved (record write { stage = then })) where
    abbrev at_it : Write
    at_it = record write { stage = stage }

    steps_on : WriteStep C a after log log at_it stage Moved (record write { stage = then })
    steps_on = at_step C a after log log at_it write.stage stage Moved (record write { stage = then }) refl (step C log)

    may_then : MayRun C (state after log (record write { stage = then }))
    may_then = may_again C (state a log at_it) may after log Moved (record write { stage = then }) steps_on tt log (stays_trimmed log is_trimmed)

    runs_then : IsArena a → IsArena after → Running C (state a log at_it) 1 0 (state after log (record write { stage = then }))
    runs_then arena arena_after = runs_further C (state a log at_it) (state a log at_it) (state after log (record write { stage = then })) 0 0 (record { steps = 1; commits = 0; last = Moved }) (runs_none C (state a log at_it))
        (one_step C (state a log at_it) (state after log (record write { stage = then })) 0 Moved (run_step C (state a log at_it) may after log Moved (record write { stage = then }) steps_on log (stays_trimmed log is_trimmed) sound arena arena_after) refl) tt

  module _ (hides : committed.hides ≡ true) where
    few : (n : ℕ) → n ≤ 2 → n ≤ steps_after committed
    few n within = subst (λ (h : Bool). n ≤ cond h 2 0) (sym hides) within

    hidden_stage : stage_after committed ≡ Hidden committed.commit
    hidden_stage = ap (λ (h : Bool). committed_at h committed.commit) hides

    at_hidden : (a : ArenaView) → MayRun C (state a log after_commit) → MayRun C (state a log (record write { stage = Hidden committed.commit }))
    at_hidden a may = subst (λ (st : Stage). MayRun C (state a log (record write { stage = st }))) hidden_stage may

    from_hidden : (a after : ArenaView) (n : ℕ) → Running C (state a log (record write { stage = Hidden committed.commit })) n 0 (state after log stored) → Running C (state a log after_commit) n 0 (state after log stored)
    from_hidden a after n running = subst (λ (st : Stage). Running C (state a log (record write { stage = st })) n 0 (state after log stored)) (sym hidden_stage) running

    -- its border can't be marked
    pub forgets_not : (a same : ArenaView) → same ≡ a → IsSpentAt a write.way.node.0 → IsArena a → IsArena same → MayRun C (state a log after_commit) → HasForgotten C a same log write committed 1
    forgets_not a same is spent arena arena_same may =
        let step = leaves_hidden a same write committed.commit is spent in
        let hidden = at_hidden a may in
        record {
          running = from_hidden a same 1 (runs_then a same (Hidden committed.commit) (Stored committed.commit None) hidden step arena arena_same);
          may = may_then a same (Hidden committed.commit) (Stored committed.commit None) hidden step;
          few = few 1 (omega arith);
          arena = arena_same;
        }

    -- it is marked, and the row dropped
    pub forgets_both : (a marked after : ArenaView) → marked ≡ with_border_changed a write.way.node.0 with_inserting → KeepsTree a marked → IsSomeAnd (border_at marked.nodes write.way.node.0) IsBorder → after ≡ with_border_changed marked write.way.node.0 with_forgotten → KeepsTree marked after
        → IsArena a → IsArena marked → IsArena after → MayRun C (state a log after_commit) → HasForgotten C a after log write committed 2
    forgets_both a marked after marks keeps whole drops kept arena arena_marked arena_after may =
        let hidden = at_hidden a may in
        let first = marks_hidden a marked write committed.commit marks keeps whole in
        let second = forgets_row marked after write committed.commit drops kept in
        let between = may_then a marked (Hidden committed.commit) (Forgets committed.commit) hidden first in
        record {
          running = from_hidden a after 2 (runs_on C (state a log (record write { stage = Hidden committed.commit })) (state marked log (record write { stage = Forgets committed.commit })) (state after log stored) 1 0 1 0
              (runs_then a marked (Hidden committed.commit) (Forgets committed.commit) hidden first arena arena_marked)
              (runs_then marked after (Forgets committed.commit) (Stored committed.commit None) between second arena_marked arena_after));
          may = may_then marked after (Forgets committed.commit) (Stored committed.commit None) between second;
          few = few 2 (omega arith);
          arena = arena_after;
        }

-- what its calls ask for
pub has_hidden : (hides : Bool) → not hides ≡ false → hides ≡ true
has_hidden true is = refl
has_hidden false is = (let clash : true ≡ false = is in cc)

pub hidden_there : (C : ℕ) (a : ArenaView) (log : LogView) (write : Write) (committed : AtCommit) → committed.hides ≡ true → MayRun C (state a log (record write { stage = stage_after committed })) → (w : World) × HasHidden FirstHeld a w write.way.node.0
hidden_there C a log write committed hides may =
    let at = subst (λ (st : Stage). MayRun C (state a log (record write { stage = st }))) (ap (λ (h : Bool). committed_at h committed.commit) hides) may in
    (at.w, at.true.0)
