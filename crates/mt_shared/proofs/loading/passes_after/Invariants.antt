use Rattle.std.proofs.Common.{◌≡◌, length}
use Rattle.mt_shared.specs.Passes.{ComesFirst}
use Rattle.mt_shared.proofs.loading.passes_after.Given as goal

-- the passes so far
abbrev pub invariant-loop-number : goal.invariant-loop-number
invariant-loop-number l = record {
  count : length l.passes.items ≡ l.number;
  each : ComesFirst l.commits l.passes.items;
}
