use Rattle.mt_border.specs.Cut.{NoneNearer}
use Rattle.mt_write.specs.Splitting.{key_slices}
use Rattle.mt_write.proofs.cut.cut_of.Given as goal

abbrev pub invariant-loop-distance : goal.invariant-loop-distance
invariant-loop-distance l = NoneNearer (key_slices l.keys) l.distance
