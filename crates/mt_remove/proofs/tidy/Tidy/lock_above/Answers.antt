use Rattle.std.proofs.Common.{◌≡◌, Bool, subst}
use Rattle.std.specs.Prelude.{IsSomeAnd}
use Rattle.mt_arena.specs.Node.{node_at}
use Rattle.mt_remove.specs.Seen.{is_free_border}
use Rattle.mt_remove.proofs.AboveLemmas.{above_there, not_free, free_unlocked, locks_above}
use Rattle.mt_remove.proofs.tidy.Tidy.lock_above.Goals as goal

pub is_free_border-requires : goal.is_free_border-requires
is_free_border-requires c = above_there c.args.epoch c.args.tree.now c.args.self.now c.args.layer c.requires.at c.requires.may

pub returns-then-not-is_free_border : goal.returns-then-not-is_free_border
returns-then-not-is_free_border c = not_free c.args.epoch c.args.tree.now c.args.self.now c.args.layer c.requires.at (subst (λ (x : Bool). IsSomeAnd (node_at c.args.tree.now.nodes c.args.layer.above.0) (λ node. x ≡ is_free_border node)) c.if-not-is_free_border.true c.is_free_border.ensures.value)

pub lock_border-requires : goal.lock_border-requires
lock_border-requires c = free_unlocked c.args.epoch c.args.tree.now c.args.self.now c.args.layer c.requires.at (subst (λ (x : Bool). IsSomeAnd (node_at c.args.tree.now.nodes c.args.layer.above.0) (λ node. x ≡ is_free_border node)) c.if-not-is_free_border.false c.is_free_border.ensures.value)

pub returns : goal.returns
returns c = locks_above c.args.epoch c.args.tree.now c.args.self.now c.args.layer c.requires.at (subst (λ (x : Bool). IsSomeAnd (node_at c.args.tree.now.nodes c.args.layer.above.0) (λ node. x ≡ is_free_border node)) c.if-not-is_free_border.false c.is_free_border.ensures.value)
    c.lock_border.new.self (c.is_free_border.ensures.sound c.if-not-is_free_border.false) c.lock_border.ensures.value c.lock_border.ensures.keeps
