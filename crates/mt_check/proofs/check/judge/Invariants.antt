use Rattle.std.proofs.Common.{◌≡◌, length, take}
use Rattle.mt_check.specs.Judging.{AllStand, AreClaims, AreRight}
use Rattle.mt_check.proofs.check.judge.Given as goal

abbrev pub invariant-loop-i : goal.invariant-loop-i
invariant-loop-i l = record {
  standing : AllStand l.log.columns l.log.deltas.now l.pages.states.items;
  size : length l.marks.items ≡ length l.log.deltas.now;
  claims : AreClaims (take l.i l.receipts) l.marks.items;
  right : AreRight l.log.columns l.log.deltas.now l.receipts l.i;
}
