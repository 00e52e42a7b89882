use Rattle.std.proofs.Common.{◌≡◌, drop}
use Rattle.std.specs.VecDeque.{deque_capacity}
use Rattle.mt_commit.proofs.log.drop_front.Given as goal

abbrev pub invariant-loop-dropped : goal.invariant-loop-dropped
invariant-loop-dropped l = record {
  items : l.deltas.items ≡ drop l.dropped l.initial.deltas.items;
  capacity : deque_capacity l.deltas ≡ deque_capacity l.initial.deltas;
}
