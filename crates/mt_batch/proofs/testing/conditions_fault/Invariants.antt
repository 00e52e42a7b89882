use Rattle.std.proofs.Common.{◌≡◌, drop}
use Rattle.mt_batch.specs.Batch.{conditions_fault}
use Rattle.mt_batch.proofs.testing.conditions_fault.Given as goal

abbrev pub invariant-loop-condition : goal.invariant-loop-condition
invariant-loop-condition l = conditions_fault (drop l.condition-index l.conditions) ≡ conditions_fault l.conditions
