use Rattle.std.proofs.Common.{sym, ◌∙◌}
use Rattle.mt_remove.proofs.LookLemmas.{right_there, same_child, same_root, other_right}
use Rattle.mt_remove.proofs.tidy.Tidy.look_right.Goals as goal

pub right_at-requires : goal.right_at-requires
right_at-requires c = right_there c.args.epoch c.args.tree.now c.args.self.now c.args.border c.args.head c.args.emptied c.args.right c.requires.at c.requires.may

pub returns-then-not-same_right : goal.returns-then-not-same_right
returns-then-not-same_right c = other_right c.args.epoch c.args.tree.now c.args.self.now c.args.border c.args.head c.args.emptied c.args.right c.requires.at c.right_at.result c.right_at.ensures (λ same. let clash = sym (c.same_right.ensures.differ same) ∙ c.if-not-same_right.true in absurd (cc))

pub returns-in-Child : goal.returns-in-Child
returns-in-Child c = same_child c.args.epoch c.args.tree.now c.args.self.now c.args.border c.args.head c.args.emptied c.args.right c.requires.at c.right_at.result c.right_at.ensures c.in-Child.parent c.in-Child.is (c.same_right.ensures.same c.if-not-same_right.false)

pub returns-in-Root : goal.returns-in-Root
returns-in-Root c = same_root c.args.epoch c.args.tree.now c.args.self.now c.args.border c.args.head c.args.emptied c.args.right c.requires.at c.right_at.result c.right_at.ensures c.in-Root.above c.in-Root.is (c.same_right.ensures.same c.if-not-same_right.false)
