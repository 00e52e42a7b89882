-- A run at the border of its key: the lock, the fields that it reads, and what follows.
use Rattle.std.proofs.Common.{ℕ, ◌≡◌, ◌+◌, arith, true, sym, ap, subst}
use Rattle.std.specs.Prelude.{IsSomeAnd}
use Rattle.mt_border.specs.declared.unwritten.Unwritten.TheVariants.{Nothing}
use Rattle.mt_arena.specs.Node.{border_at}
use Rattle.mt_arena.specs.Arena.{ArenaView}
use Rattle.mt_steps.specs.declared.progress.Progress.TheVariants.{Answered, Moved}
use Rattle.mt_types.specs.declared.event.Answer.TheVariants.{Absent}
use Rattle.mt_write.specs.declared.running.WriteRun.{WriteRun}
use Rattle.mt_write.specs.declared.writing.Write.{Write}
use Rattle.mt_write.specs.Runs.{HasRun, MayRun, state}
use Rattle.mt_write.proofs.FinishLemmas.{ends_none, ends_run_stored, may_go_on, stops_ready, stored_locked, stored_written, trimmed_none, trimmed_ready}
use Rattle.mt_write.proofs.PassLemmas.{after_reads, at_key, unlock_locked, unlock_written}
use Rattle.mt_write.proofs.writing.Write.finish.Goals as goal

pub act-came_to-requires : goal.act-came_to-requires
act-came_to-requires c =
    let k = at_key c.args.columns c.args.tree.now c.lock_border.new.self c.args.log.now c.args.self.now c.requires.may c.requires.trimmed c.requires.idle c.requires.lock c.lock_border.ensures.value c.lock_border.ensures.keeps c.free_numbers-before.ensures.arena c.free_numbers-locked.ensures.arena c.number-trimmed.ensures.sound c.border.result.now c.border.ensures.value c.lock_border.ensures.sound c.args.found c.requires.finds c.requires.here c.requires.straight c.found_fields-fields.result c.found_fields-fields.ensures.fields in
    (k.there, k.act)

pub unlock-requires-in-Commits-clause-locked : goal.unlock-requires-in-Commits-clause-locked
unlock-requires-in-Commits-clause-locked c =
    let k = at_key c.args.columns c.args.tree.now c.lock_border.new.self c.args.log.now c.args.self.now c.requires.may c.requires.trimmed c.requires.idle c.requires.lock c.lock_border.ensures.value c.lock_border.ensures.keeps c.free_numbers-before.ensures.arena c.free_numbers-locked.ensures.arena c.number-trimmed.ensures.sound c.border.result.now c.border.ensures.value c.lock_border.ensures.sound c.args.found c.requires.finds c.requires.here c.requires.straight c.found_fields-fields.result c.found_fields-fields.ensures.fields in
    let at = c.in-Commits.ensures k.there k.act in
    stored_locked c.args.columns c.lock_border.new.self c.args.log.now c.args.self.now k.there k.act.may c.requires.trimmed c.free_numbers-locked.ensures.arena c.act-came_to.new.tree c.act-came_to.new.log c.in-Commits.committed at c.forget_hidden-more.new.tree c.forget_hidden-more.result (c.forget_hidden-more.ensures c.args.columns c.act-came_to.new.log at.may at.trimmed c.number-sound.ensures.sound)

pub unlock-requires-in-Commits-clause-written : goal.unlock-requires-in-Commits-clause-written
unlock-requires-in-Commits-clause-written c =
    let k = at_key c.args.columns c.args.tree.now c.lock_border.new.self c.args.log.now c.args.self.now c.requires.may c.requires.trimmed c.requires.idle c.requires.lock c.lock_border.ensures.value c.lock_border.ensures.keeps c.free_numbers-before.ensures.arena c.free_numbers-locked.ensures.arena c.number-trimmed.ensures.sound c.border.result.now c.border.ensures.value c.lock_border.ensures.sound c.args.found c.requires.finds c.requires.here c.requires.straight c.found_fields-fields.result c.found_fields-fields.ensures.fields in
    let at = c.in-Commits.ensures k.there k.act in
    stored_written c.args.columns c.lock_border.new.self c.args.log.now c.args.self.now k.there k.act.may c.requires.trimmed c.free_numbers-locked.ensures.arena c.act-came_to.new.tree c.act-came_to.new.log c.in-Commits.committed at c.forget_hidden-more.new.tree c.forget_hidden-more.result (c.forget_hidden-more.ensures c.args.columns c.act-came_to.new.log at.may at.trimmed c.number-sound.ensures.sound)

pub returns-in-Absent-clause-runs : goal.returns-in-Absent-clause-runs
returns-in-Absent-clause-runs c =
    let k = at_key c.args.columns c.args.tree.now c.lock_border.new.self c.args.log.now c.args.self.now c.requires.may c.requires.trimmed c.requires.idle c.requires.lock c.lock_border.ensures.value c.lock_border.ensures.keeps c.free_numbers-before.ensures.arena c.free_numbers-locked.ensures.arena c.number-trimmed.ensures.sound c.border.result.now c.border.ensures.value c.lock_border.ensures.sound c.args.found c.requires.finds c.requires.here c.requires.straight c.found_fields-fields.result c.found_fields-fields.ensures.fields in
    subst (λ (run : WriteRun). HasRun c.args.columns (state c.args.tree.now c.args.log.now c.args.self.now) run (state c.unlock.new.tree c.act-came_to.new.log c.args.self.now)) (sym c.unlock.ensures.run)
    (subst (λ (n : ℕ). HasRun c.args.columns (state c.args.tree.now c.args.log.now c.args.self.now) (record { steps = n; commits = 0; last = Answered Absent }) (state c.unlock.new.tree c.act-came_to.new.log c.args.self.now)) (omega arith)
    (after_reads c.args.columns c.args.tree.now c.lock_border.new.self c.args.log.now c.args.self.now c.args.found c.found_fields-fields.result k (record { steps = 1; commits = 0; last = Answered Absent }) (state c.unlock.new.tree c.act-came_to.new.log c.args.self.now)
    (ends_none c.args.columns c.lock_border.new.self c.args.log.now c.args.self.now k.there k.act.may c.requires.trimmed c.free_numbers-locked.ensures.arena c.act-came_to.new.tree c.act-came_to.new.log c.unlock.new.tree (c.in-Absent.ensures k.there k.act) c.unlock.ensures.unlocked c.unlock.ensures.keeps c.unlock.ensures.arena c.number-sound.ensures.sound)))

pub returns-in-Absent-clause-trimmed : goal.returns-in-Absent-clause-trimmed
returns-in-Absent-clause-trimmed c =
    let k = at_key c.args.columns c.args.tree.now c.lock_border.new.self c.args.log.now c.args.self.now c.requires.may c.requires.trimmed c.requires.idle c.requires.lock c.lock_border.ensures.value c.lock_border.ensures.keeps c.free_numbers-before.ensures.arena c.free_numbers-locked.ensures.arena c.number-trimmed.ensures.sound c.border.result.now c.border.ensures.value c.lock_border.ensures.sound c.args.found c.requires.finds c.requires.here c.requires.straight c.found_fields-fields.result c.found_fields-fields.ensures.fields in
    trimmed_none c.args.columns c.lock_border.new.self c.args.log.now c.args.self.now k.there k.act.may c.requires.trimmed c.free_numbers-locked.ensures.arena c.act-came_to.new.tree c.act-came_to.new.log c.unlock.new.tree (c.in-Absent.ensures k.there k.act) c.unlock.ensures.unlocked c.unlock.ensures.keeps c.unlock.ensures.arena c.number-sound.ensures.sound

pub returns-in-Commits-clause-runs : goal.returns-in-Commits-clause-runs
returns-in-Commits-clause-runs c =
    let k = at_key c.args.columns c.args.tree.now c.lock_border.new.self c.args.log.now c.args.self.now c.requires.may c.requires.trimmed c.requires.idle c.requires.lock c.lock_border.ensures.value c.lock_border.ensures.keeps c.free_numbers-before.ensures.arena c.free_numbers-locked.ensures.arena c.number-trimmed.ensures.sound c.border.result.now c.border.ensures.value c.lock_border.ensures.sound c.args.found c.requires.finds c.requires.here c.requires.straight c.found_fields-fields.result c.found_fields-fields.ensures.fields in
    let at = c.in-Commits.ensures k.there k.act in
    subst (λ (run : WriteRun). HasRun c.args.columns (state c.args.tree.now c.args.log.now c.args.self.now) run (state c.unlock-in-Commits.new.tree c.act-came_to.new.log c.args.self.now)) (sym c.unlock-in-Commits.ensures.run)
    (subst (λ (n : ℕ). HasRun c.args.columns (state c.args.tree.now c.args.log.now c.args.self.now) (record { steps = n; commits = 1; last = Answered c.written-answer.result }) (state c.unlock-in-Commits.new.tree c.act-came_to.new.log c.args.self.now)) (omega arith)
    (after_reads c.args.columns c.args.tree.now c.lock_border.new.self c.args.log.now c.args.self.now c.args.found c.found_fields-fields.result k (record { steps = c.in-Commits.committed.steps + c.forget_hidden-more.result + 1; commits = 1; last = Answered c.written-answer.result }) (state c.unlock-in-Commits.new.tree c.act-came_to.new.log c.args.self.now)
    (ends_run_stored c.args.columns c.lock_border.new.self c.args.log.now c.args.self.now k.there k.act.may c.requires.trimmed c.free_numbers-locked.ensures.arena c.act-came_to.new.tree c.act-came_to.new.log c.in-Commits.committed at c.forget_hidden-more.new.tree c.forget_hidden-more.result (c.forget_hidden-more.ensures c.args.columns c.act-came_to.new.log at.may at.trimmed c.number-sound.ensures.sound) c.requires.idle c.unlock-in-Commits.new.tree c.written-answer.result c.written-answer.ensures c.unlock-in-Commits.ensures.unlocked c.unlock-in-Commits.ensures.keeps c.unlock-in-Commits.ensures.arena c.number-sound.ensures.sound)))

pub returns-in-Commits-clause-trimmed : goal.returns-in-Commits-clause-trimmed
returns-in-Commits-clause-trimmed c =
    let k = at_key c.args.columns c.args.tree.now c.lock_border.new.self c.args.log.now c.args.self.now c.requires.may c.requires.trimmed c.requires.idle c.requires.lock c.lock_border.ensures.value c.lock_border.ensures.keeps c.free_numbers-before.ensures.arena c.free_numbers-locked.ensures.arena c.number-trimmed.ensures.sound c.border.result.now c.border.ensures.value c.lock_border.ensures.sound c.args.found c.requires.finds c.requires.here c.requires.straight c.found_fields-fields.result c.found_fields-fields.ensures.fields in
    (c.in-Commits.ensures k.there k.act).trimmed

pub returns-in-Ready-clause-runs : goal.returns-in-Ready-clause-runs
returns-in-Ready-clause-runs c =
    let k = at_key c.args.columns c.args.tree.now c.lock_border.new.self c.args.log.now c.args.self.now c.requires.may c.requires.trimmed c.requires.idle c.requires.lock c.lock_border.ensures.value c.lock_border.ensures.keeps c.free_numbers-before.ensures.arena c.free_numbers-locked.ensures.arena c.number-trimmed.ensures.sound c.border.result.now c.border.ensures.value c.lock_border.ensures.sound c.args.found c.requires.finds c.requires.here c.requires.straight c.found_fields-fields.result c.found_fields-fields.ensures.fields in
    subst (λ (w : Write). HasRun c.args.columns (state c.args.tree.now c.args.log.now c.args.self.now) (record { steps = c.found_fields-fields.result + 2; commits = 0; last = Moved }) (state c.act-came_to.new.tree c.act-came_to.new.log w)) (sym c.turn_to.ensures)
    (subst (λ (n : ℕ). HasRun c.args.columns (state c.args.tree.now c.args.log.now c.args.self.now) (record { steps = n; commits = 0; last = Moved }) (state c.act-came_to.new.tree c.act-came_to.new.log (record c.args.self.now { stage = c.in-Ready.stage }))) (omega arith)
    (after_reads c.args.columns c.args.tree.now c.lock_border.new.self c.args.log.now c.args.self.now c.args.found c.found_fields-fields.result k (record { steps = 1; commits = 0; last = Moved }) (state c.act-came_to.new.tree c.act-came_to.new.log (record c.args.self.now { stage = c.in-Ready.stage }))
    (stops_ready c.args.columns c.lock_border.new.self c.args.log.now c.args.self.now k.there k.act.may c.requires.trimmed c.free_numbers-locked.ensures.arena c.act-came_to.new.tree c.act-came_to.new.log c.in-Ready.stage (c.in-Ready.ensures k.there k.act) c.free_numbers-acted.ensures.arena c.number-sound.ensures.sound)))

pub returns-in-Ready-clause-next : goal.returns-in-Ready-clause-next
returns-in-Ready-clause-next c =
    let k = at_key c.args.columns c.args.tree.now c.lock_border.new.self c.args.log.now c.args.self.now c.requires.may c.requires.trimmed c.requires.idle c.requires.lock c.lock_border.ensures.value c.lock_border.ensures.keeps c.free_numbers-before.ensures.arena c.free_numbers-locked.ensures.arena c.number-trimmed.ensures.sound c.border.result.now c.border.ensures.value c.lock_border.ensures.sound c.args.found c.requires.finds c.requires.here c.requires.straight c.found_fields-fields.result c.found_fields-fields.ensures.fields in
    λ on. subst (λ (w : Write). MayRun c.args.columns (state c.act-came_to.new.tree c.act-came_to.new.log w)) (sym c.turn_to.ensures) (may_go_on c.args.columns c.lock_border.new.self c.args.log.now c.args.self.now k.there k.act.may c.requires.trimmed c.free_numbers-locked.ensures.arena c.act-came_to.new.tree c.act-came_to.new.log c.in-Ready.stage (c.in-Ready.ensures k.there k.act))

pub returns-in-Ready-clause-trimmed : goal.returns-in-Ready-clause-trimmed
returns-in-Ready-clause-trimmed c =
    let k = at_key c.args.columns c.args.tree.now c.lock_border.new.self c.args.log.now c.args.self.now c.requires.may c.requires.trimmed c.requires.idle c.requires.lock c.lock_border.ensures.value c.lock_border.ensures.keeps c.free_numbers-before.ensures.arena c.free_numbers-locked.ensures.arena c.number-trimmed.ensures.sound c.border.result.now c.border.ensures.value c.lock_border.ensures.sound c.args.found c.requires.finds c.requires.here c.requires.straight c.found_fields-fields.result c.found_fields-fields.ensures.fields in
    trimmed_ready c.args.columns c.lock_border.new.self c.args.log.now c.args.self.now k.there k.act.may c.requires.trimmed c.free_numbers-locked.ensures.arena c.act-came_to.new.tree c.act-came_to.new.log c.in-Ready.stage (c.in-Ready.ensures k.there k.act)

pub unlock-requires-clause-locked : goal.unlock-requires-clause-locked
unlock-requires-clause-locked c =
    let k = at_key c.args.columns c.args.tree.now c.lock_border.new.self c.args.log.now c.args.self.now c.requires.may c.requires.trimmed c.requires.idle c.requires.lock c.lock_border.ensures.value c.lock_border.ensures.keeps c.free_numbers-before.ensures.arena c.free_numbers-locked.ensures.arena c.number-trimmed.ensures.sound c.border.result.now c.border.ensures.value c.lock_border.ensures.sound c.args.found c.requires.finds c.requires.here c.requires.straight c.found_fields-fields.result c.found_fields-fields.ensures.fields in
    subst (λ (x : ArenaView). IsSomeAnd (border_at x.nodes c.args.self.now.way.node.0) (λ b. b.version.locked ≡ true)) (sym (c.in-Absent.ensures k.there k.act).0) (unlock_locked c.args.tree.now c.lock_border.new.self c.args.self.now.way.node.0 c.requires.lock c.lock_border.ensures.value)

pub unlock-requires-clause-written : goal.unlock-requires-clause-written
unlock-requires-clause-written c =
    let k = at_key c.args.columns c.args.tree.now c.lock_border.new.self c.args.log.now c.args.self.now c.requires.may c.requires.trimmed c.requires.idle c.requires.lock c.lock_border.ensures.value c.lock_border.ensures.keeps c.free_numbers-before.ensures.arena c.free_numbers-locked.ensures.arena c.number-trimmed.ensures.sound c.border.result.now c.border.ensures.value c.lock_border.ensures.sound c.args.found c.requires.finds c.requires.here c.requires.straight c.found_fields-fields.result c.found_fields-fields.ensures.fields in
    subst (λ (x : ArenaView). IsSomeAnd (border_at x.nodes c.args.self.now.way.node.0) (λ b. b.unwritten ≡ Nothing)) (sym (c.in-Absent.ensures k.there k.act).0) (unlock_written c.args.tree.now c.lock_border.new.self c.args.self.now.way.node.0 c.requires.lock c.lock_border.ensures.value)

pub overflow_add-fields-in-Commits : goal.overflow_add-fields-in-Commits
overflow_add-fields-in-Commits c =
    let k = at_key c.args.columns c.args.tree.now c.lock_border.new.self c.args.log.now c.args.self.now c.requires.may c.requires.trimmed c.requires.idle c.requires.lock c.lock_border.ensures.value c.lock_border.ensures.keeps c.free_numbers-before.ensures.arena c.free_numbers-locked.ensures.arena c.number-trimmed.ensures.sound c.border.result.now c.border.ensures.value c.lock_border.ensures.sound c.args.found c.requires.finds c.requires.here c.requires.straight c.found_fields-fields.result c.found_fields-fields.ensures.fields in
    let at = c.in-Commits.ensures k.there k.act in
    let few = at.few in
    let fields = c.found_fields-fields.ensures.few in
    omega (arith, few, fields)

pub overflow_add-fields-in-Commits-2 : goal.overflow_add-fields-in-Commits-2
overflow_add-fields-in-Commits-2 c =
    let k = at_key c.args.columns c.args.tree.now c.lock_border.new.self c.args.log.now c.args.self.now c.requires.may c.requires.trimmed c.requires.idle c.requires.lock c.lock_border.ensures.value c.lock_border.ensures.keeps c.free_numbers-before.ensures.arena c.free_numbers-locked.ensures.arena c.number-trimmed.ensures.sound c.border.result.now c.border.ensures.value c.lock_border.ensures.sound c.args.found c.requires.finds c.requires.here c.requires.straight c.found_fields-fields.result c.found_fields-fields.ensures.fields in
    let at = c.in-Commits.ensures k.there k.act in
    let few = at.few in
    let more = (c.forget_hidden-more.ensures c.args.columns c.act-came_to.new.log at.may at.trimmed c.number-sound.ensures.sound).few in
    let fields = c.found_fields-fields.ensures.few in
    omega (arith, few, more, fields)

pub returns-in-Commits-clause-most : goal.returns-in-Commits-clause-most
returns-in-Commits-clause-most c =
    let k = at_key c.args.columns c.args.tree.now c.lock_border.new.self c.args.log.now c.args.self.now c.requires.may c.requires.trimmed c.requires.idle c.requires.lock c.lock_border.ensures.value c.lock_border.ensures.keeps c.free_numbers-before.ensures.arena c.free_numbers-locked.ensures.arena c.number-trimmed.ensures.sound c.border.result.now c.border.ensures.value c.lock_border.ensures.sound c.args.found c.requires.finds c.requires.here c.requires.straight c.found_fields-fields.result c.found_fields-fields.ensures.fields in
    let at = c.in-Commits.ensures k.there k.act in
    let few = at.few in
    let more = (c.forget_hidden-more.ensures c.args.columns c.act-came_to.new.log at.may at.trimmed c.number-sound.ensures.sound).few in
    let fields = c.found_fields-fields.ensures.few in
    let run = ap (λ (r : WriteRun). r.steps) c.unlock-in-Commits.ensures.run in
    omega (arith, few, more, fields, run)

pub overflow_add-fields-in-Commits-3 : goal.overflow_add-fields-in-Commits-3
overflow_add-fields-in-Commits-3 c =
    let k = at_key c.args.columns c.args.tree.now c.lock_border.new.self c.args.log.now c.args.self.now c.requires.may c.requires.trimmed c.requires.idle c.requires.lock c.lock_border.ensures.value c.lock_border.ensures.keeps c.free_numbers-before.ensures.arena c.free_numbers-locked.ensures.arena c.number-trimmed.ensures.sound c.border.result.now c.border.ensures.value c.lock_border.ensures.sound c.args.found c.requires.finds c.requires.here c.requires.straight c.found_fields-fields.result c.found_fields-fields.ensures.fields in
    let at = c.in-Commits.ensures k.there k.act in
    let few = at.few in
    let more = (c.forget_hidden-more.ensures c.args.columns c.act-came_to.new.log at.may at.trimmed c.number-sound.ensures.sound).few in
    let fields = c.found_fields-fields.ensures.few in
    omega (arith, few, more, fields)

pub forget_hidden-more-requires : goal.forget_hidden-more-requires
forget_hidden-more-requires c =
    let k = at_key c.args.columns c.args.tree.now c.lock_border.new.self c.args.log.now c.args.self.now c.requires.may c.requires.trimmed c.requires.idle c.requires.lock c.lock_border.ensures.value c.lock_border.ensures.keeps c.free_numbers-before.ensures.arena c.free_numbers-locked.ensures.arena c.number-trimmed.ensures.sound c.border.result.now c.border.ensures.value c.lock_border.ensures.sound c.args.found c.requires.finds c.requires.here c.requires.straight c.found_fields-fields.result c.found_fields-fields.ensures.fields in
    (c.args.columns, c.act-came_to.new.log, (c.in-Commits.ensures k.there k.act).may)
