use Rattle.mt_remove.proofs.AboveLemmas.{order_there, orders}
use Rattle.mt_remove.proofs.tidy.Tidy.order_above.Goals as goal

pub order_at-requires : goal.order_at-requires
order_at-requires c = order_there c.args.epoch c.args.tree.now c.args.self.now c.args.layer c.requires.at c.requires.may

pub returns : goal.returns
returns c = orders c.args.epoch c.args.tree.now c.args.self.now c.args.layer c.requires.at c.order_at.result c.order_at.ensures c.searched-self.result c.searched-self.ensures
