use Rattle.mt_tree.proofs.SpareLemmas.{keeps_written_border}
use Rattle.mt_tree.proofs.tree.Tree.fill_border.Goals as goal

pub returns-clause-keeps : goal.returns-clause-keeps
returns-clause-keeps c = rw (← c.self.view_is) (keeps_written_border c.self.inside.arena c.args.number.0 c.border_mut.result.now c.fill.new.self c.border_mut.ensures.value)
