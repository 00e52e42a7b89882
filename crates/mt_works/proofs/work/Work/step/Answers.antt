use Rattle.mt_works.proofs.WorkLemmas.{step_get, step_write, step_range, step_tidy, step_build, may_get, may_range, may_tidy}
use Rattle.mt_works.proofs.work.Work.step.Goals as goal

pub returns-in-Get-clause-steps : goal.returns-in-Get-clause-steps
returns-in-Get-clause-steps c = step_get c.args.epoch c.args.columns c.args.tree.now c.args.tree.now c.args.log.now c.args.log.now c.args.self.now c.in-Get.get _ _ _ c.in-Get.is (c.step.ensures.steps c.args.columns c.args.log.now)

pub returns-in-Write-clause-steps : goal.returns-in-Write-clause-steps
returns-in-Write-clause-steps c = step_write c.args.epoch c.args.columns c.args.tree.now c.step-progress.new.tree c.args.log.now c.step-progress.new.log c.args.self.now c.in-Write.write _ _ _ c.in-Write.is c.step-progress.ensures.steps

pub returns-in-Tidy-clause-steps : goal.returns-in-Tidy-clause-steps
returns-in-Tidy-clause-steps c = step_tidy c.args.epoch c.args.columns c.args.tree.now c.step-in-Tidy.new.tree c.args.log.now c.args.log.now c.args.self.now c.in-Tidy.tidy _ _ _ c.in-Tidy.is (c.step-in-Tidy.ensures.steps c.args.columns c.args.log.now)

pub step-requires : goal.step-requires
step-requires c = (c.args.log.now, may_get c.args.epoch c.args.columns c.args.tree.now c.args.log.now c.args.self.now c.in-Get.get c.in-Get.is c.requires.may)

pub step-requires-in-Tidy : goal.step-requires-in-Tidy
step-requires-in-Tidy c = may_tidy c.args.epoch c.args.columns c.args.tree.now c.args.log.now c.args.self.now c.in-Tidy.tidy c.in-Tidy.is c.requires.may

pub step-requires-in-Range : goal.step-requires-in-Range
step-requires-in-Range c = (c.args.log.now, may_range c.args.epoch c.args.columns c.args.tree.now c.args.log.now c.args.self.now c.in-Range.range c.in-Range.is c.requires.may)

pub returns-in-Range-clause-steps : goal.returns-in-Range-clause-steps
returns-in-Range-clause-steps c = step_range c.args.epoch c.args.columns c.args.tree.now c.args.tree.now c.args.log.now c.args.log.now c.args.self.now c.in-Range.range _ _ _ c.in-Range.is (c.step-in-Range.ensures.steps c.args.columns c.args.log.now)

pub returns-in-Build-clause-steps : goal.returns-in-Build-clause-steps
returns-in-Build-clause-steps c = step_build c.args.epoch c.args.columns c.args.tree.now c.args.log.now c.args.self.now c.in-Build.building _ c.step-in-Build.new.self c.in-Build.is (c.step-in-Build.ensures.steps c.args.columns)
