use Rattle.std.proofs.Common.{◌≡◌, ◌≤◌, ◌*◌, sum_by, length}
use Rattle.std.specs.Prelude.{All}
use Rattle.mt_shared.specs.declared.counters.Counters.{Counters}
use Rattle.mt_shared.proofs.loading.counters_after.Given as goal

abbrev pub invariant-loop : goal.invariant-loop
invariant-loop l = record {
  count : length l.counters.items ≡ l.counter;
  events : sum_by (λ (own : Counters). own.events) l.counters.items ≡ 3 * l.commits;
  commits : sum_by (λ (own : Counters). own.commits) l.counters.items ≡ l.commits;
  seen : All (λ (own : Counters). own.seen ≤ l.commits) l.counters.items;
}
