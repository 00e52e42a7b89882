use Rattle.std.proofs.Common.{None}
use Rattle.mt_arena.proofs.NodeLemmas.{updates-without}
use Rattle.mt_tree.proofs.SpareLemmas.{keeps_updated}
use Rattle.mt_tree.proofs.tree.Tree.give_back.Goals as goal

pub returns-clause-keeps : goal.returns-clause-keeps
returns-clause-keeps c = rw (← c.self.view_is, c.free.ensures.value)
    (keeps_updated c.self.inside.arena _ c.args.number.0 None (updates-without c.self.inside.arena.nodes c.args.number.0 (rw (← c.self.view_is) at c.requires.named)))
