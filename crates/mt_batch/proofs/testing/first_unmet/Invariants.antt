use Rattle.mt_promise.specs.History.{History, moment, rows}
use Rattle.mt_index.specs.Stands.{Stands}
use Rattle.mt_batch.specs.Batch.{HoldUpTo}
use Rattle.mt_batch.proofs.testing.first_unmet.Given as goal

-- each so far holds
abbrev pub invariant-loop-place : goal.invariant-loop-place
invariant-loop-place l = (h : History) → Stands l.machine h → HoldUpTo l.place (rows l.machine.columns (moment h)) l.conditions
