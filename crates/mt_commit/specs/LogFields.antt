-- The log of commits, read off its fields.
use Rattle.std.specs.Prelude.{◌≡◌, ◌+◌, ◌≤◌, length}
use Rattle.std.specs.VecDeque.{deque_items, deque_len, deque_capacity}
use Rattle.mt_commit.specs.Log.{LogView, IsLog, newest}
use Rattle.mt_commit.specs.declared.log.Log.TheInside.{Inside}

abbrev pub log_of : Inside → LogView
log_of log = record {
  base = log.base;
  held_after = log.held_after;
  deltas = deque_items log.deltas;
  reserved = log.reserved;
  holders = log.holders;
  capacity = log.capacity;
  retention = log.retention;
  rows = log.rows;
}

-- the queue has the room that was reserved, the holders are counted, and each row has a commit of its own
pub record IsKept (log : Inside) : Type 0 where
  pub sound : IsLog (log_of log)
  pub room : deque_len log.deltas + log.reserved ≤ deque_capacity log.deltas
  pub counted : length log.holders ≡ log.holder_count
  pub few : log.rows ≤ newest (log_of log)
