use Rattle.std.proofs.Common.{subst, sym}
use Rattle.mt_steps.specs.declared.progress.Progress.{Progress}
use Rattle.mt_remove.specs.Follows.{TidyStep}
use Rattle.mt_remove.proofs.OneChildLemmas.{keeps_interior}
use Rattle.mt_remove.proofs.tidy.Tidy.keep_interior.Goals as goal

pub returns : goal.returns
returns c = subst (λ (p : Progress). TidyStep c.args.epoch c.args.tree.now c.unlock_interior.new.self c.args.self.now p c.args.self.now) (sym c.nothing.ensures)
    (keeps_interior c.args.epoch c.args.tree.now c.args.self.now c.args.interior c.requires.at c.unlock_interior.new.self c.unlock_interior.ensures.value c.unlock_interior.ensures.keeps)
