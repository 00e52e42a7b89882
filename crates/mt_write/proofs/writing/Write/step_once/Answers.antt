use Rattle.mt_write.specs.Runs.{state}
use Rattle.mt_write.proofs.RunLemmas.{left_trimmed, may_again, one_step, run_step}
use Rattle.mt_write.proofs.writing.Write.step_once.Goals as goal

pub trim_after-commits-requires : goal.trim_after-commits-requires
trim_after-commits-requires c = left_trimmed c.args.columns (state c.args.tree.now c.args.log.now c.args.self.now) c.requires.may c.go-last.new.tree c.go-last.new.log c.go-last.result c.go-last.new.self c.go-last.ensures c.requires.trimmed

pub returns-clause-runs : goal.returns-clause-runs
returns-clause-runs c = one_step c.args.columns (state c.args.tree.now c.args.log.now c.args.self.now) _ c.trim_after-commits.result c.go-last.result
    (run_step c.args.columns (state c.args.tree.now c.args.log.now c.args.self.now) c.requires.may c.go-last.new.tree c.go-last.new.log c.go-last.result c.go-last.new.self c.go-last.ensures c.trim_after-commits.new.log c.trim_after-commits.ensures.trims c.number-sound.ensures.sound c.free_numbers-before.ensures.arena c.free_numbers-after.ensures.arena) c.trim_after-commits.ensures.commits

pub returns-clause-next : goal.returns-clause-next
returns-clause-next c = λ on. may_again c.args.columns (state c.args.tree.now c.args.log.now c.args.self.now) c.requires.may c.go-last.new.tree c.go-last.new.log c.go-last.result c.go-last.new.self c.go-last.ensures on c.trim_after-commits.new.log c.trim_after-commits.ensures.trims
