use Rattle.std.proofs.Common.{◌≡◌, ◌≤◌, length, take}
use Rattle.mt_shared.specs.Traces.{part}
use Rattle.mt_shared.proofs.trace.is_part.Given as goal

abbrev pub invariant-loop-entry : goal.invariant-loop-entry
invariant-loop-entry l = record {
  within : l.at ≤ length l.list;
  same : take l.at l.list ≡ part l.pass (take l.entry-index l.entries);
}
