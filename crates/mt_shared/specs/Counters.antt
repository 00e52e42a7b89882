-- The counters of a pass: what the index knows that the pass did.
use Rattle.std.specs.Prelude.{ℕ, ◌+◌, List, max, sum_by}
use Rattle.mt_types.specs.declared.event.Outcome.{Outcome}
use Rattle.mt_shared.specs.declared.counters.Counters.{Counters}
use Rattle.mt_index.specs.declared.running.Run.{Run}
use Rattle.mt_index.specs.Events.{commit_count}
use Rattle.mt_shared.specs.Passes.{seen_in}

-- how many events and commits are counted
abbrev pub counted_events : List Counters → ℕ
counted_events counters = sum_by (λ (own : Counters). own.events) counters

abbrev pub counted_commits : List Counters → ℕ
counted_commits counters = sum_by (λ (own : Counters). own.commits) counters

-- the counters, with the steps of a run more
abbrev pub counters_after : Run → Counters → Counters
counters_after run own = record {
  events = own.events + run.steps;
  commits = own.commits + run.commits;
  seen = max own.seen (seen_in run.last);
}

-- the counters, with one more event
abbrev pub counters_with : Outcome → Counters → Counters
counters_with outcome own = record {
  events = own.events + 1;
  commits = own.commits + commit_count outcome;
  seen = max own.seen (seen_in outcome);
}
