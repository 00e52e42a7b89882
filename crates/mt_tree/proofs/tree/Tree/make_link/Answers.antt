-- What it keeps of the tree, by the law of its step.
use Rattle.mt_tree.proofs.LayerSteps.{may_link}
use Rattle.mt_tree.proofs.tree.Tree.make_link.Goals as goal

pub make_link-requires-clause-long : goal.make_link-requires-clause-long
make_link-requires-clause-long c = may_link c.self.inside.arena c.args.number.0 c.args.place c.args.head c.border_mut.result.now c.border_mut.ensures.value (rw (← c.self.view_is) at c.requires)
