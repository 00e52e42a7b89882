use Rattle.mt_steps.specs.Lone.{IsLoneTree}
use Rattle.mt_steps.proofs.LoneWay.{way_left}
use Rattle.mt_undo.proofs.TakingLemmas.{IsSoughtIn}
use Rattle.mt_undo.proofs.taking.entry_of.Given as goal

-- it is on its way, at a node that is on
abbrev pub invariant-loop-found : goal.invariant-loop-found
invariant-loop-found l = IsLoneTree l.tree × ((lone : IsLoneTree l.tree) → IsSoughtIn l.tree lone l.key l.way)

abbrev pub decreases-loop-found : goal.decreases-loop-found
decreases-loop-found l = way_left l.tree l.way.layer l.way.node.0
