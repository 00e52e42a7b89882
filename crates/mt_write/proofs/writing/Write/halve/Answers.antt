-- At a full border: the lock, what is read, and the split.
use Rattle.std.proofs.Common.{◌≡◌, ◌<◌, ◌≤◌, arith, sym, subst}
use Rattle.mt_steps.specs.declared.progress.Progress.TheVariants.{Moved}
use Rattle.mt_write.specs.declared.running.WriteRun.{WriteRun}
use Rattle.mt_write.specs.declared.writing.Stage.TheVariants.{Copies}
use Rattle.mt_write.specs.declared.writing.Write.{Write}
use Rattle.mt_write.specs.Runs.{HasRun, MayRun, state}
use Rattle.mt_write.proofs.HalvingLemmas.{may_ready, may_split, splits_there, stops_there}
use Rattle.mt_write.proofs.writing.Write.halve.Goals as goal

pub ready_full-requires : goal.ready_full-requires
ready_full-requires c = (c.args.log.now, may_ready c.args.columns c.args.tree.now c.lock_border.new.self c.args.log.now c.args.self.now c.requires.may c.requires.trimmed c.requires.idle c.requires.lock c.lock_border.ensures.value c.lock_border.ensures.keeps c.free_numbers-before.ensures.arena c.free_numbers-locked.ensures.arena c.number-trimmed.ensures.sound c.border.result.now c.border.ensures.value c.lock_border.ensures.sound c.args.place c.requires.finds c.requires.here c.requires.full c.in-Ok.outline c.in-Ok.ensures)

pub split_off-part-requires : goal.split_off-part-requires
split_off-part-requires c = record { may = (c.args.columns, c.args.log.now, may_split c.args.columns c.args.tree.now c.lock_border.new.self c.args.log.now c.args.self.now c.requires.may c.requires.trimmed c.requires.idle c.requires.lock c.lock_border.ensures.value c.lock_border.ensures.keeps c.free_numbers-before.ensures.arena c.free_numbers-locked.ensures.arena c.number-trimmed.ensures.sound c.border.result.now c.border.ensures.value c.lock_border.ensures.sound c.args.place c.requires.finds c.requires.here c.requires.full c.in-Ok.outline c.in-Ok.ensures c.ready_full.new.tree c.in-Some.stage (c.in-Some.ensures.some c.args.log.now (may_ready c.args.columns c.args.tree.now c.lock_border.new.self c.args.log.now c.args.self.now c.requires.may c.requires.trimmed c.requires.idle c.requires.lock c.lock_border.ensures.value c.lock_border.ensures.keeps c.free_numbers-before.ensures.arena c.free_numbers-locked.ensures.arena c.number-trimmed.ensures.sound c.border.result.now c.border.ensures.value c.lock_border.ensures.sound c.args.place c.requires.finds c.requires.here c.requires.full c.in-Ok.outline c.in-Ok.ensures)) c.free_numbers-ready.ensures.arena (Copies c.in-Copies.half c.in-Copies.cut c.in-Copies.place c.in-Copies.outline c.in-Copies.entries) c.in-Copies.is, c.requires.trimmed, c.number-trimmed.ensures.sound) }

pub returns-in-Copies-clause-runs : goal.returns-in-Copies-clause-runs
returns-in-Copies-clause-runs c = splits_there c.args.columns c.args.tree.now c.lock_border.new.self c.args.log.now c.args.self.now c.requires.may c.requires.trimmed c.requires.idle c.requires.lock c.lock_border.ensures.value c.lock_border.ensures.keeps c.free_numbers-before.ensures.arena c.free_numbers-locked.ensures.arena c.number-trimmed.ensures.sound c.border.result.now c.border.ensures.value c.lock_border.ensures.sound c.args.place c.requires.finds c.requires.here c.requires.full c.in-Ok.outline c.in-Ok.ensures c.ready_full.new.tree c.in-Some.stage (c.in-Some.ensures.some c.args.log.now (may_ready c.args.columns c.args.tree.now c.lock_border.new.self c.args.log.now c.args.self.now c.requires.may c.requires.trimmed c.requires.idle c.requires.lock c.lock_border.ensures.value c.lock_border.ensures.keeps c.free_numbers-before.ensures.arena c.free_numbers-locked.ensures.arena c.number-trimmed.ensures.sound c.border.result.now c.border.ensures.value c.lock_border.ensures.sound c.args.place c.requires.finds c.requires.here c.requires.full c.in-Ok.outline c.in-Ok.ensures)) c.free_numbers-ready.ensures.arena (Copies c.in-Copies.half c.in-Copies.cut c.in-Copies.place c.in-Copies.outline c.in-Copies.entries) c.in-Copies.is c.split_off-part.result c.split_off-part.new.tree c.split_off-part.new.self (c.split_off-part.ensures.runs c.args.columns c.args.log.now (may_split c.args.columns c.args.tree.now c.lock_border.new.self c.args.log.now c.args.self.now c.requires.may c.requires.trimmed c.requires.idle c.requires.lock c.lock_border.ensures.value c.lock_border.ensures.keeps c.free_numbers-before.ensures.arena c.free_numbers-locked.ensures.arena c.number-trimmed.ensures.sound c.border.result.now c.border.ensures.value c.lock_border.ensures.sound c.args.place c.requires.finds c.requires.here c.requires.full c.in-Ok.outline c.in-Ok.ensures c.ready_full.new.tree c.in-Some.stage (c.in-Some.ensures.some c.args.log.now (may_ready c.args.columns c.args.tree.now c.lock_border.new.self c.args.log.now c.args.self.now c.requires.may c.requires.trimmed c.requires.idle c.requires.lock c.lock_border.ensures.value c.lock_border.ensures.keeps c.free_numbers-before.ensures.arena c.free_numbers-locked.ensures.arena c.number-trimmed.ensures.sound c.border.result.now c.border.ensures.value c.lock_border.ensures.sound c.args.place c.requires.finds c.requires.here c.requires.full c.in-Ok.outline c.in-Ok.ensures)) c.free_numbers-ready.ensures.arena (Copies c.in-Copies.half c.in-Copies.cut c.in-Copies.place c.in-Copies.outline c.in-Copies.entries) c.in-Copies.is) c.requires.trimmed c.number-trimmed.ensures.sound)

pub returns-in-Copies-clause-next : goal.returns-in-Copies-clause-next
returns-in-Copies-clause-next c = λ on. (c.split_off-part.ensures.runs c.args.columns c.args.log.now (may_split c.args.columns c.args.tree.now c.lock_border.new.self c.args.log.now c.args.self.now c.requires.may c.requires.trimmed c.requires.idle c.requires.lock c.lock_border.ensures.value c.lock_border.ensures.keeps c.free_numbers-before.ensures.arena c.free_numbers-locked.ensures.arena c.number-trimmed.ensures.sound c.border.result.now c.border.ensures.value c.lock_border.ensures.sound c.args.place c.requires.finds c.requires.here c.requires.full c.in-Ok.outline c.in-Ok.ensures c.ready_full.new.tree c.in-Some.stage (c.in-Some.ensures.some c.args.log.now (may_ready c.args.columns c.args.tree.now c.lock_border.new.self c.args.log.now c.args.self.now c.requires.may c.requires.trimmed c.requires.idle c.requires.lock c.lock_border.ensures.value c.lock_border.ensures.keeps c.free_numbers-before.ensures.arena c.free_numbers-locked.ensures.arena c.number-trimmed.ensures.sound c.border.result.now c.border.ensures.value c.lock_border.ensures.sound c.args.place c.requires.finds c.requires.here c.requires.full c.in-Ok.outline c.in-Ok.ensures)) c.free_numbers-ready.ensures.arena (Copies c.in-Copies.half c.in-Copies.cut c.in-Copies.place c.in-Copies.outline c.in-Copies.entries) c.in-Copies.is) c.requires.trimmed c.number-trimmed.ensures.sound).may

pub returns-in_default-stage : goal.returns-in_default-stage
returns-in_default-stage c =
    let (runs, next) = stops_there c.args.columns c.args.tree.now c.lock_border.new.self c.args.log.now c.args.self.now c.requires.may c.requires.trimmed c.requires.idle c.requires.lock c.lock_border.ensures.value c.lock_border.ensures.keeps c.free_numbers-before.ensures.arena c.free_numbers-locked.ensures.arena c.number-trimmed.ensures.sound c.border.result.now c.border.ensures.value c.lock_border.ensures.sound c.args.place c.requires.finds c.requires.here c.requires.full c.in-Ok.outline c.in-Ok.ensures c.ready_full.new.tree c.in-Some.stage (c.in-Some.ensures.some c.args.log.now (may_ready c.args.columns c.args.tree.now c.lock_border.new.self c.args.log.now c.args.self.now c.requires.may c.requires.trimmed c.requires.idle c.requires.lock c.lock_border.ensures.value c.lock_border.ensures.keeps c.free_numbers-before.ensures.arena c.free_numbers-locked.ensures.arena c.number-trimmed.ensures.sound c.border.result.now c.border.ensures.value c.lock_border.ensures.sound c.args.place c.requires.finds c.requires.here c.requires.full c.in-Ok.outline c.in-Ok.ensures)) c.free_numbers-ready.ensures.arena in
    let same : c.turn_to.new.self ≡ record c.args.self.now { stage = c.in-Some.stage } = c.turn_to.ensures in
    record {
      runs = subst (λ (run : WriteRun). HasRun c.args.columns (state c.args.tree.now c.args.log.now c.args.self.now) run (state c.ready_full.new.tree c.args.log.now c.turn_to.new.self)) (sym c.moved.ensures)
          (subst (λ (w : Write). HasRun c.args.columns (state c.args.tree.now c.args.log.now c.args.self.now) (record { steps = 19; commits = 0; last = Moved }) (state c.ready_full.new.tree c.args.log.now w)) (sym same) runs);
      some = subst (λ (run : WriteRun). 0 < run.steps) (sym c.moved.ensures) (omega arith);
      most = subst (λ (run : WriteRun). run.steps ≤ 37) (sym c.moved.ensures) (omega arith);
      next = λ on. subst (λ (w : Write). MayRun c.args.columns (state c.ready_full.new.tree c.args.log.now w)) (sym same) next;
      trimmed = c.requires.trimmed;
    }
