use Rattle.std.proofs.Common.{◌≡◌, drop}
use Rattle.mt_batch.specs.Batch.{changes_fault}
use Rattle.mt_batch.proofs.testing.changes_fault.Given as goal

abbrev pub invariant-loop-change : goal.invariant-loop-change
invariant-loop-change l = changes_fault l.columns (drop l.change-index l.changes) ≡ changes_fault l.columns l.changes
