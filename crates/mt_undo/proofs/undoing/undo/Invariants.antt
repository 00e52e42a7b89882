use Rattle.std.proofs.Common.{◌-◌}
use Rattle.mt_commit.specs.Log.{newest}
use Rattle.mt_undo.proofs.UndoLemmas.{AllGoBack}
use Rattle.mt_undo.proofs.undoing.undo.Given as goal

-- some puts less
abbrev pub invariant-loop-tree : goal.invariant-loop-tree
invariant-loop-tree l = AllGoBack l.commits l.rows l.fn.tree l.fn.log l.tree l.log

abbrev pub decreases-loop-tree : goal.decreases-loop-tree
decreases-loop-tree l = newest l.log - l.commits
