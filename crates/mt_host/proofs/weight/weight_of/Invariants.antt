use Rattle.std.proofs.Common.{◌≤◌}
use Rattle.mt_host.proofs.weight.weight_of.Given as goal

abbrev pub invariant-loop-query : goal.invariant-loop-query
invariant-loop-query l = 1 ≤ l.weight
