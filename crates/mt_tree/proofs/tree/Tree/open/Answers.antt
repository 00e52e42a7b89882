use Rattle.std.proofs.Common.{◌∙◌}
use Rattle.mt_tree.proofs.NewTreeLemmas.{new_tree, new_tree_index, new_tree_empty}
use Rattle.mt_tree.proofs.tree.Tree.open.Goals as goal

pub returns-clause-new : goal.returns-clause-new
returns-clause-new c = new_tree c.in_ok-arena.arena c.spare.new.self _ _ c.set_root.new.self _ _ c.in-Ok.root c.new.ensures.value c.in_ok-arena.ensures.first c.in-Ok.ensures.vacant c.new-2.ensures.value c.in-Ok.ensures.updates (c.in-Ok.ensures.retired ∙ c.in_ok-arena.ensures.retired) c.head_mut.ensures.value c.set_root.ensures.value

pub returns-clause-index : goal.returns-clause-index
returns-clause-index c = λ new. new_tree_index _ new

pub returns-clause-empty : goal.returns-clause-empty
returns-clause-empty c = new_tree_empty _ (returns-clause-new c)
