-- The log of commits as its contracts see it, and what its calls make of it.
use Rattle.std.specs.Prelude.{ℕ, ◌+◌, ◌-◌, ◌^◌, ◌≡◌, ◌<◌, ◌≤◌, nat_lt, nat_le, min, max, List, [], ◌∷◌, ◌++◌, length, drop, slice_get, Option, Some, None, All}
use Rattle.std.specs.Option.{option_or}
use Rattle.mt_types.specs.Numbers.{least, greatest_number}
use Rattle.mt_types.specs.Limits.{refused_if}
use Rattle.mt_types.specs.declared.row.Delta.{Delta}
use Rattle.mt_types.specs.declared.row.Row.{Row}
use Rattle.mt_types.specs.declared.refusal.Refusal.{Refusal}
use Rattle.mt_types.specs.declared.refusal.Refusal.TheVariants.{FeedFull, Spent}
use Rattle.mt_commit.specs.declared.effect.Effect.{Effect}
use Rattle.mt_commit.specs.declared.log.Keeping.{Keeping}
use Rattle.mt_commit.specs.declared.effect.Effect.TheVariants.{Adds, Keeps, Removes}

pub record LogView : Type 0 where
  pub base : ℕ  -- after this number of commits it began: what came before was never in it
  pub held_after : ℕ  -- the deltas of the commits up to this number were trimmed
  pub deltas : List Delta  -- those of the commits after it, the oldest first
  pub reserved : ℕ  -- for how many more deltas there is room
  pub holders : List ℕ  -- from which numbers of commits it is held, each as often as it is, in ascending order
  pub capacity : ℕ  -- how many deltas it may hold for the slowest that reads it
  pub retention : ℕ  -- how many of the last deltas it keeps for nobody
  pub rows : ℕ  -- how many rows there are after the newest commit

-- the number of the newest commit
abbrev pub newest : LogView → ℕ
newest log = log.held_after + length log.deltas

-- the least number from which the log is held, or that of the newest commit
abbrev pub slowest : LogView → ℕ
slowest log = least (newest log) log.holders

-- the delta of the commit of this number
abbrev pub delta_of : LogView → ℕ → Option Delta
delta_of log number = slice_get log.deltas (number - log.held_after - 1)

-- why there is no room for one more delta, unless it is out of memory
abbrev pub reserve_fault : LogView → Option Refusal
reserve_fault log =
    option_or (refused_if (nat_le greatest_number (newest log + log.reserved)) Spent)
    (refused_if (nat_lt log.capacity (newest log - slowest log + log.reserved + 1)) (FeedFull (slowest log)))

-- what a commit does to the number of rows, by the row that its key had, and the one that it then has
abbrev pub effect_of : Option Row → Option Row → Effect
effect_of None None = Keeps
effect_of None (Some row) = Adds
effect_of (Some row) None = Removes
effect_of (Some row) (Some other) = Keeps

-- how many rows there are after a commit, from those before it
abbrev pub counted : Effect → ℕ → ℕ
counted Adds rows = rows + 1
counted Keeps rows = rows
counted Removes rows = rows - 1

-- the log after the delta of the next commit, in room that was reserved
abbrev pub with_delta : LogView → Delta → LogView
with_delta log delta = record log {
  deltas = log.deltas ++ delta ∷ [];
  reserved = log.reserved - 1;
  rows = counted (effect_of delta.before delta.after) log.rows;
}

-- if there are n commits, those after this number are kept for no reader: the last ones, but none from before the log began
abbrev pub kept_after : LogView → ℕ → ℕ
kept_after log n = max log.base (n - log.retention)

-- what is left is what came after the slowest, and the last ones, which are kept in any case
abbrev pub trimmed : LogView → LogView
trimmed log =
    let bound = min (slowest log) (kept_after log (newest log)) in
    record log { held_after = bound; deltas = drop (bound - log.held_after) log.deltas }

-- the log that begins again after this number of commits, and has none of their deltas
abbrev pub begun_after : ℕ → LogView → LogView
begun_after number log = record log { base = number; held_after = number; deltas = [] }

-- what a log keeps for no reader
abbrev pub keeping : LogView → Keeping
keeping log = record { base = log.base; retention = log.retention }

-- the log that keeps so much for no reader, before it is trimmed
abbrev pub kept_as : Keeping → LogView → LogView
kept_as keeping log = record log { base = keeping.base; retention = keeping.retention }

-- the log that keeps for no reader what it has, and whatever comes
abbrev pub keeping_all : LogView → LogView
keeping_all log = record log { base = log.held_after; retention = greatest_number }

-- no delta stays in it: nobody holds it, and it keeps none
abbrev pub IsUnread : LogView → Type 0
IsUnread log = (log.holders ≡ []) × (log.retention ≡ 0)

-- the deltas are those of the commits after this number, one by one
abbrev pub Numbered : ℕ → List Delta → Type 0
Numbered number [] = Unit {0}
Numbered number (delta ∷ deltas) = (delta.number ≡ number + 1) × Numbered (number + 1) deltas

-- what each log keeps
pub record IsLog (log : LogView) : Type 0 where
  pub numbered : Numbered log.held_after log.deltas
  pub holders_from : All (λ holder. log.held_after ≤ holder) log.holders
  pub holders_to : All (λ holder. holder ≤ newest log) log.holders
  pub begun : log.base ≤ log.held_after
  pub kept : log.held_after ≤ kept_after log (newest log)
  pub fits : newest log + log.reserved < 2 ^ 64
