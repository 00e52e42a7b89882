use Rattle.std.proofs.Common.{ℕ, inl, inr, sym, ap, subst, ◌∙◌}
use Rattle.mt_steps.specs.declared.progress.Progress.{Progress}
use Rattle.mt_remove.specs.Follows.{PlaceStep}
use Rattle.mt_remove.specs.Noted.{sign_of}
use Rattle.mt_remove.proofs.PlaceLemmas.{ends, begins_lone, locks}
use Rattle.mt_remove.proofs.tidy.Tidy.begin.Goals as goal

pub returns-then-is_locked : goal.returns-then-is_locked
returns-then-is_locked c = subst (λ (p : Progress). PlaceStep c.args.epoch c.args.tree.now c.args.tree.now c.args.self.now c.args.noted p c.args.self.now) (sym c.nothing.ensures)
    (ends c.args.epoch c.args.tree.now c.args.self.now c.args.noted c.border-border.result.now c.border-border.ensures.value (inl (rw c.version.ensures.value at (sym c.is_locked.ensures ∙ c.if-is_locked.true))))

pub returns-in-Nothing : goal.returns-in-Nothing
returns-in-Nothing c = subst (λ (p : Progress). PlaceStep c.args.epoch c.args.tree.now c.args.tree.now c.args.self.now c.args.noted p c.args.self.now) (sym c.nothing-in-Nothing.ensures)
    (ends c.args.epoch c.args.tree.now c.args.self.now c.args.noted c.border-border.result.now c.border-border.ensures.value (inr ((rw c.version.ensures.value at (sym c.is_locked.ensures ∙ c.if-is_locked.false)), (ap (λ (low : ℕ). sign_of low c.args.noted) (sym c.low.ensures.value) ∙ (sym c.sign_of.ensures ∙ c.in-Nothing.is)))))

pub returns-in-Empty : goal.returns-in-Empty
returns-in-Empty c = locks c.args.epoch c.args.tree.now c.args.self.now c.args.noted c.border-border.result.now c.border-border.ensures.value c.in-Empty.emptied c.in-Empty.glance c.lock_border.new.self c.border-border.ensures.sound (rw c.version.ensures.value at (sym c.is_locked.ensures ∙ c.if-is_locked.false)) (ap (λ (low : ℕ). sign_of low c.args.noted) (sym c.low.ensures.value) ∙ (sym c.sign_of.ensures ∙ c.in-Empty.is)) c.lock_border.ensures.value c.lock_border.ensures.keeps

pub returns-in-LoneChild : goal.returns-in-LoneChild
returns-in-LoneChild c = begins_lone c.args.epoch c.args.tree.now c.args.self.now c.args.noted c.border-border.result.now c.border-border.ensures.value c.in-LoneChild.lone (rw c.version.ensures.value at (sym c.is_locked.ensures ∙ c.if-is_locked.false)) (ap (λ (low : ℕ). sign_of low c.args.noted) (sym c.low.ensures.value) ∙ (sym c.sign_of.ensures ∙ c.in-LoneChild.is))
