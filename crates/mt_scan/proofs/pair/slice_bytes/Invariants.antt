use Rattle.std.proofs.Common.{◌≡◌, take}
use Rattle.std.specs.List.{flat_map}
use Rattle.std.specs.Int.{w64, to_be_bytes}
use Rattle.mt_scan.proofs.pair.slice_bytes.Given as goal

-- the bytes of the slices so far
abbrev pub invariant-loop-slice : goal.invariant-loop-slice
invariant-loop-slice l = l.bytes.items ≡ flat_map (to_be_bytes w64) (take l.slice-index l.slices)
