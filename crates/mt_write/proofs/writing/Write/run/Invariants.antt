use Rattle.std.proofs.Common.{◌≤◌, ◌-◌}
use Rattle.mt_write.specs.Runs.{IsTrimmed, MayRun, state}
use Rattle.mt_write.specs.Runs.{Running}
use Rattle.mt_write.proofs.writing.Write.run.Given as goal

-- steps were made after each of which the call has continued at once, fewer than the most, and the next one may be made
abbrev pub invariant-loop-steps : goal.invariant-loop-steps
invariant-loop-steps l = record {
  running : Running l.fn.columns (state l.fn.tree l.fn.log l.fn.self) l.steps l.commits (state l.tree l.log l.self);
  may : MayRun l.fn.columns (state l.tree l.log l.self);
  trimmed : IsTrimmed l.log;
  few : l.steps ≤ l.most - 1;
}

abbrev pub decreases-loop-steps : goal.decreases-loop-steps
decreases-loop-steps l = l.most - l.steps
