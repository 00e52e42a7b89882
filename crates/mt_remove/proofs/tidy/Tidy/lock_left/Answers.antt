use Rattle.std.proofs.Common.{sym, subst, rules}
use Rattle.mt_steps.specs.declared.progress.Progress.{Progress}
use Rattle.mt_remove.specs.Follows.{TidyStep}
use Rattle.mt_remove.proofs.LeftLemmas.{gone_again, locked_waits, locks_left, lock_there}
use Rattle.mt_remove.proofs.tidy.Tidy.lock_left.Goals as goal

pub border-requires : goal.border-requires
border-requires c = lock_there c.args.epoch c.args.tree.now c.args.self.now c.args.unlinking c.requires.at c.requires.may c.requires.bounded

pub returns-then-deleted : goal.returns-then-deleted
returns-then-deleted c = subst (λ (p : Progress). TidyStep c.args.epoch c.args.tree.now c.args.tree.now c.args.self.now p c.approach.new.self) (sym c.approach.ensures.progress)
    (gone_again c.args.epoch c.args.tree.now c.args.self.now c.args.unlinking c.requires.at c.requires.bounded c.border.result.now c.border.ensures.value (search rules) c.approach.new.self c.approach.ensures.after)

pub returns-then-is_locked : goal.returns-then-is_locked
returns-then-is_locked c = locked_waits c.args.epoch c.args.tree.now c.args.self.now c.args.unlinking c.requires.at c.requires.bounded c.border.result.now c.border.ensures.value (search rules) (search rules)

pub returns : goal.returns
returns c = locks_left c.args.epoch c.args.tree.now c.args.self.now c.args.unlinking c.requires.at c.requires.bounded c.border.result.now c.border.ensures.value c.lock_border.new.self c.border.ensures.sound (search rules) (search rules) c.lock_border.ensures.value c.lock_border.ensures.keeps
