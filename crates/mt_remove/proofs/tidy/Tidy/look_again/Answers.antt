use Rattle.std.proofs.Common.{sym, ◌∙◌}
use Rattle.mt_remove.proofs.LookLemmas.{again_there, same_order, other_order}
use Rattle.mt_remove.proofs.tidy.Tidy.look_again.Goals as goal

pub order_at-requires : goal.order_at-requires
order_at-requires c = again_there c.args.epoch c.args.tree.now c.args.self.now c.args.border c.args.head c.args.emptied c.args.glance c.requires.at c.requires.may

pub returns-then-not-same_order : goal.returns-then-not-same_order
returns-then-not-same_order c = other_order c.args.epoch c.args.tree.now c.args.self.now c.args.border c.args.head c.args.emptied c.args.glance c.requires.at c.order_at.result c.order_at.ensures (λ same. let clash = sym (c.same_order.ensures.differ same) ∙ c.if-not-same_order.true in absurd (cc))

pub returns : goal.returns
returns c = same_order c.args.epoch c.args.tree.now c.args.self.now c.args.border c.args.head c.args.emptied c.args.glance c.requires.at c.order_at.result c.order_at.ensures (c.same_order.ensures.same c.if-not-same_order.false)
