use Rattle.std.proofs.Common.{subst, sym}
use Rattle.mt_steps.specs.declared.progress.Progress.{Progress}
use Rattle.mt_remove.specs.Follows.{TidyStep}
use Rattle.mt_remove.proofs.DropLemmas.{keeps_border}
use Rattle.mt_remove.proofs.tidy.Tidy.keep_border.Goals as goal

pub returns : goal.returns
returns c = subst (λ (p : Progress). TidyStep c.args.epoch c.args.tree.now c.unlock_border.new.self c.args.self.now p c.args.self.now) (sym c.nothing.ensures)
    (keeps_border c.args.epoch c.args.tree.now c.args.self.now c.args.border c.requires.at c.unlock_border.new.self c.unlock_border.ensures.value c.unlock_border.ensures.keeps)
