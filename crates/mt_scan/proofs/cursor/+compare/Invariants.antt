use Rattle.std.proofs.Common.{length}
use Rattle.mt_scan.proofs.cursor.+compare.Given as goal

abbrev pub decreases-compare : goal.decreases-compare
decreases-compare l = length l.cursor.now
