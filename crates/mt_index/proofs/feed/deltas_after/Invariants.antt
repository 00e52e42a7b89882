use Rattle.std.proofs.Common.{◌≡◌, ◌≤◌, ◌-◌, take, drop}
use Rattle.mt_commit.specs.Log.{newest}
use Rattle.mt_index.proofs.feed.deltas_after.Given as goal

-- the deltas so far are the first after the number
abbrev pub invariant-loop-done : goal.invariant-loop-done
invariant-loop-done l = record {
  read : l.deltas.items ≡ take l.done (drop (l.from - l.log.held_after) l.log.deltas);
  here : l.log.held_after ≤ l.from;
  there : l.count ≤ newest l.log - l.from;
}
