use Rattle.std.proofs.Common.{◌≡◌, ◌+◌, sum_by, take}
use Rattle.mt_shared.specs.declared.counters.Counters.{Counters}
use Rattle.mt_shared.specs.Passes.{PassView}
use Rattle.mt_shared.proofs.settling.add_up.Given as goal

-- what the counters that are left add up to, and the passes so far, is what the counters added up to
abbrev pub invariant-loop-pass : goal.invariant-loop-pass
invariant-loop-pass l = record {
  events : sum_by (λ (own : Counters). own.events) l.counters.items + sum_by (λ (p : PassView). p.events) (take l.pass-index l.passes) ≡ sum_by (λ (own : Counters). own.events) l.fn.counters.items;
  commits : sum_by (λ (own : Counters). own.commits) l.counters.items + sum_by (λ (p : PassView). p.commits) (take l.pass-index l.passes) ≡ sum_by (λ (own : Counters). own.commits) l.fn.counters.items;
}
