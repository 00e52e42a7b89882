use Rattle.std.proofs.Common.{◌≡◌, length}
use Rattle.mt_shared.specs.Passes.{AreNewFrom}
use Rattle.mt_shared.proofs.map.new_passes.Given as goal

-- the passes so far
abbrev pub invariant-loop-number : goal.invariant-loop-number
invariant-loop-number l = record {
  count : length l.passes.items ≡ l.number;
  each : AreNewFrom l.traced 1 l.passes.items;
}
