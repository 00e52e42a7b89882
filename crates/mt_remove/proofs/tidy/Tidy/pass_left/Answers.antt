use Rattle.std.proofs.Common.{sym, subst}
use Rattle.mt_steps.specs.declared.progress.Progress.TheVariants.{Moved}
use Rattle.mt_steps.specs.declared.reader.Reader.TheVariants.{Begins}
use Rattle.mt_remove.specs.declared.stage.Stage.TheVariants.{Marked}
use Rattle.mt_remove.specs.declared.stage.Unlinking.{Unlinking}
use Rattle.mt_remove.specs.Follows.{TidyStep}
use Rattle.mt_remove.proofs.UnlinkLemmas.{passes_left}
use Rattle.mt_remove.proofs.tidy.Tidy.pass_left.Goals as goal

pub returns : goal.returns
returns c = subst (λ (x : Unlinking). TidyStep c.args.epoch c.args.tree.now c.unlock_border.new.self c.args.self.now Moved (record c.args.self.now { finding = Begins; stage = Marked x })) (sym c.at.ensures)
    (passes_left c.args.epoch c.args.tree.now c.args.self.now c.args.unlinking c.requires.at c.unlock_border.new.self c.unlock_border.ensures.value c.unlock_border.ensures.keeps)
