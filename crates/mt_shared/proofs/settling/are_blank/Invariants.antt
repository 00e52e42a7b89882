use Rattle.std.proofs.Common.{◌≡◌, sum_by, take}
use Rattle.mt_shared.specs.declared.counters.Counters.{Counters}
use Rattle.mt_shared.proofs.settling.are_blank.Given as goal

abbrev pub invariant-loop-own : goal.invariant-loop-own
invariant-loop-own l = record {
  events : sum_by (λ (own : Counters). own.events) (take l.own-index l.counters) ≡ 0;
  commits : sum_by (λ (own : Counters). own.commits) (take l.own-index l.counters) ≡ 0;
}
