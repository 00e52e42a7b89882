use Rattle.mt_undo.proofs.RemoveLemmas.{AllRemoving}
use Rattle.mt_undo.proofs.removing.remove_all.Given as goal

-- some are removed
abbrev pub invariant-loop-key : goal.invariant-loop-key
invariant-loop-key l = AllRemoving l.fn.taken.items l.fn.tree l.fn.log l.key-iterator.rest.items l.tree l.log
