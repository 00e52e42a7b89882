use Rattle.mt_tree.proofs.SpareLemmas.{given_keeps}
use Rattle.mt_tree.proofs.tree.Tree.occupy.Goals as goal

pub returns-clause-keeps : goal.returns-clause-keeps
returns-clause-keeps c = rw (← c.self.view_is) (given_keeps c.self.inside.arena c.spare.new.self c.spare.result c.args.node c.spare.ensures.vacant c.spare.ensures.updates c.spare.ensures.err)
