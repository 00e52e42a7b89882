use Rattle.std.proofs.Common.{arith, ◌≤◌}
use Rattle.mt_border.proofs.CutLemmas.{none_nearer_than}
use Rattle.mt_write.proofs.cut.cut_of.Goals as goal

pub unreachable-requires : goal.unreachable-requires
unreachable-requires c =
    let ended : 8 ≤ c.loop-distance.distance = omega arith in
    c.requires.some (none_nearer_than _ 8 c.loop-distance.distance ended c.loop-distance.invariant)
