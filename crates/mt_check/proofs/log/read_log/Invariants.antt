use Rattle.std.proofs.Common.{take}
use Rattle.mt_check.specs.Versions.{AreVersions, AreSound}
use Rattle.mt_check.proofs.log.read_log.Given as goal

abbrev pub invariant-loop-i : goal.invariant-loop-i
invariant-loop-i l = record {
  sound : AreSound l.deltas l.i;
  versions : AreVersions (take l.i l.deltas) l.versions;
}
