use Rattle.std.proofs.Common.{◌≡◌}
use Rattle.mt_index.specs.Alone.{IsIdle}
use Rattle.mt_map.specs.Tidies.{Tidies}
use Rattle.mt_map.proofs.tidying.tidy_all.Given as goal

-- each tidy so far took something out, at this place
abbrev pub invariant-loop : goal.invariant-loop
invariant-loop l = record {
  tidies : Tidies l.counter l.fn.machine l.fn.first l.machine;
  same : l.place ≡ l.fn.first;
  idle : IsIdle l.machine;
}
