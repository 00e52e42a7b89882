use Rattle.std.proofs.Common.{◌≡◌, ◌+◌}
use Rattle.mt_check.specs.Judging.{IsStanding}
use Rattle.mt_check.proofs.pages.walk_on.Given as goal

abbrev pub invariant-loop-delta : goal.invariant-loop-delta
invariant-loop-delta l = record {
  at : l.state.at ≡ l.fn.state.at + l.delta-index;
  standing : IsStanding l.fn.state.columns l.deltas l.fn.state.spec l.state;
}
