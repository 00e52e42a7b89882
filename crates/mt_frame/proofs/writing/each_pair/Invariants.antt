use Rattle.std.proofs.Common.{◌≡◌, ◌++◌, All, take}
use Rattle.std.specs.List.{flat_map}
use Rattle.mt_wire.specs.Spelling.{pair_spelling}
use Rattle.mt_frame.specs.Fits.{PairFits}
use Rattle.mt_frame.proofs.writing.each_pair.Given as goal

-- the rows so far are written, and they fit
abbrev pub invariant-loop-pair : goal.invariant-loop-pair
invariant-loop-pair l = record {
  written : l.out.items ≡ l.fn.out.items ++ flat_map pair_spelling (take l.pair-index l.pairs);
  fit : All PairFits (take l.pair-index l.pairs);
}
