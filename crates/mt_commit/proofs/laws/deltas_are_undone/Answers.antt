use Rattle.mt_commit.proofs.laws.deltas_are_undone.Goals as goal
use Rattle.mt_commit.proofs.RowLemmas.{done_is_undone, undone_is_done, undone_leaves_before}

pub returns-clause-done : goal.returns-clause-done
returns-clause-done c = done_is_undone

pub returns-clause-undone : goal.returns-clause-undone
returns-clause-undone c = undone_is_done

pub returns-clause-before : goal.returns-clause-before
returns-clause-before c = undone_leaves_before
