-- Each row is left, or it is in the index.
use Rattle.std.proofs.Common.{◌≡◌, List}
use Rattle.mt_index.specs.Stands.{HasBounds}
use Rattle.mt_load.specs.Loading.{AreParted}
use Rattle.mt_load.proofs.loading.put_all.Given as goal

abbrev pub invariant-loop-key : goal.invariant-loop-key
invariant-loop-key l = record {
  parted : AreParted l.fn.rows l.left l.machine;
  columns : l.machine.columns ≡ l.fn.machine.columns;
  bounds : HasBounds l.fn.machine.log.capacity l.fn.machine.log.retention l.machine.log;
}
