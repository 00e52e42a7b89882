use Rattle.std.proofs.Common.{subst, sym}
use Rattle.mt_steps.specs.declared.progress.Progress.{Progress}
use Rattle.mt_remove.specs.Follows.{TidyStep}
use Rattle.mt_remove.proofs.OneChildLemmas.{lone_there, ends, may_lock, locks}
use Rattle.mt_remove.proofs.tidy.Tidy.lock_lone.Goals as goal

pub is_lone-requires : goal.is_lone-requires
is_lone-requires c = lone_there c.args.epoch c.args.tree.now c.args.self.now c.args.lone c.requires.at c.requires.may

pub returns-then-not-is_lone : goal.returns-then-not-is_lone
returns-then-not-is_lone c = subst (λ (p : Progress). TidyStep c.args.epoch c.args.tree.now c.args.tree.now c.args.self.now p c.args.self.now) (sym c.nothing.ensures)
    (ends c.args.epoch c.args.tree.now c.args.self.now c.args.lone c.requires.at (c.if-not-is_lone.ensures))

pub lock_interior-requires : goal.lock_interior-requires
lock_interior-requires c = may_lock c.args.epoch c.args.tree.now c.args.self.now c.args.lone c.requires.at (c.if-not-is_lone.ensures)

pub returns : goal.returns
returns c = locks c.args.epoch c.args.tree.now c.args.self.now c.args.lone c.requires.at (c.if-not-is_lone.ensures) c.lock_interior.new.self c.lock_interior.ensures.value c.lock_interior.ensures.keeps
