use Rattle.std.proofs.Common.{◌≡◌, ◌≤◌, sum_by, length}
use Rattle.std.specs.Prelude.{All}
use Rattle.mt_shared.specs.declared.counters.Counters.{Counters}
use Rattle.mt_shared.proofs.inner.blank_counters.Given as goal

abbrev pub invariant-loop : goal.invariant-loop
invariant-loop l = record {
  count : length l.counters.items ≡ l.counter;
  events : sum_by (λ (own : Counters). own.events) l.counters.items ≡ 0;
  commits : sum_by (λ (own : Counters). own.commits) l.counters.items ≡ 0;
  seen : All (λ (own : Counters). own.seen ≤ 0) l.counters.items;
}
