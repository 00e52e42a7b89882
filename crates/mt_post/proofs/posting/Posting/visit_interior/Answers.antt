use Rattle.std.proofs.Common.{Option, ◌≡◌, ◌⊎◌, inl, inr, true, sym, subst, ◌∙◌, refl}
use Rattle.std.specs.Prelude.{IsSomeAnd}
use Rattle.mt_interior.specs.Interior.{InteriorView}
use Rattle.mt_steps.proofs.FoundLemmas.{some_at}
use Rattle.mt_post.proofs.WalkLemmas.{may_visit, held_back, child_leads}
use Rattle.mt_post.proofs.posting.Posting.visit_interior.Goals as goal

pub returns-then-deleted : goal.returns-then-deleted
returns-then-deleted c =
    held_back c.args.tree.now c.args.self.now c.args.node c.requires.walks _ refl
    (subst (λ (o : Option InteriorView). IsSomeAnd o (λ i. (i.version.deleted ≡ true) ⊎ (i.version.locked ≡ true))) (sym c.interior-interior.ensures.value) (inl (rw c.version.ensures.value at (sym c.deleted.ensures ∙ c.if-deleted.true))))

pub returns-then-is_locked : goal.returns-then-is_locked
returns-then-is_locked c =
    held_back c.args.tree.now c.args.self.now c.args.node c.requires.walks _ refl
    (subst (λ (o : Option InteriorView). IsSomeAnd o (λ i. (i.version.deleted ≡ true) ⊎ (i.version.locked ≡ true))) (sym c.interior-interior.ensures.value) (inr (rw c.version-2.ensures.value at (sym c.is_locked.ensures ∙ c.if-is_locked.true))))

pub child_for-requires-clause-some : goal.child_for-requires-clause-some
child_for-requires-clause-some c =
    ((may_visit c.args.tree.now c.args.self.now c.args.node c.requires.walks c.goal-goal.result c.goal-goal.ensures c.requires.may).has_child c.interior-interior.result.now c.interior-interior.ensures.value (rw c.version.ensures.value at (sym c.deleted.ensures ∙ c.if-deleted.false))).0

pub child_for-requires-clause-from_low : goal.child_for-requires-clause-from_low
child_for-requires-clause-from_low c =
    ((may_visit c.args.tree.now c.args.self.now c.args.node c.requires.walks c.goal-goal.result c.goal-goal.ensures c.requires.may).has_child c.interior-interior.result.now c.interior-interior.ensures.value (rw c.version.ensures.value at (sym c.deleted.ensures ∙ c.if-deleted.false))).1

pub returns-then-child-goal : goal.returns-then-child-goal
returns-then-child-goal c =
    child_leads c.args.tree.now c.args.self.now c.args.node c.requires.walks c.goal-goal.result c.goal-goal.ensures c.interior-interior.result.now c.child_for.result c.child-child.result c.interior-interior.ensures.value (rw c.version.ensures.value at (sym c.deleted.ensures ∙ c.if-deleted.false))
    c.child_for.ensures.place c.child-child.ensures.value (some_at _ _ c.child-child.result c.child_for.ensures.leads c.child-child.ensures.value) c.if-child-goal.true
