-- The feed: what a reader of the log is given.
use Rattle.std.specs.Prelude.{ℕ, ◌-◌, nat_lt, List, take, drop, Option}
use Rattle.std.specs.Option.{option_or}
use Rattle.mt_types.specs.declared.row.Delta.{Delta}
use Rattle.mt_types.specs.declared.refusal.Refusal.{Refusal}
use Rattle.mt_types.specs.declared.refusal.Refusal.TheVariants.{Behind}
use Rattle.mt_types.specs.Limits.{limit_fault, refused_if}
use Rattle.mt_commit.specs.Log.{LogView}

-- why a reader isn't given the deltas after a number: the limit is out of its bounds, or some of them were trimmed
abbrev pub feed_fault : LogView → ℕ → ℕ → Option Refusal
feed_fault log from limit =
    option_or (limit_fault limit) (refused_if (nat_lt from log.held_after) (Behind log.held_after))

-- the deltas that a log has of the commits after a number, at most `limit`
abbrev pub deltas_after : LogView → ℕ → ℕ → List Delta
deltas_after log from limit = take limit (drop (from - log.held_after) log.deltas)
