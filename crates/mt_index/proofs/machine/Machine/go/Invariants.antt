use Rattle.std.proofs.Common.{◌≤◌, ◌-◌}
use Rattle.mt_index.proofs.MakesLemmas.{Going}
use Rattle.mt_index.proofs.machine.Machine.go.Given as goal

-- steps were made by each of which the call has continued at once, fewer than the most
abbrev pub invariant-loop-steps : goal.invariant-loop-steps
invariant-loop-steps l = record {
  going : Going l.fn.self l.fn.call l.steps l.commits l.self;
  few : l.steps ≤ l.most - 1;
}

abbrev pub decreases-loop-steps : goal.decreases-loop-steps
decreases-loop-steps l = l.most - l.steps
