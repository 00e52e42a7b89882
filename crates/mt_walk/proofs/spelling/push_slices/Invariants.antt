use Rattle.std.proofs.Common.{◌≡◌, ◌++◌, take}
use Rattle.std.specs.List.{flat_map}
use Rattle.std.specs.Int.{w64, to_be_bytes}
use Rattle.mt_walk.specs.Standing.{slices_of}
use Rattle.mt_walk.proofs.spelling.push_slices.Given as goal

-- the bytes of the slices so far
abbrev pub invariant-loop-stop : goal.invariant-loop-stop
invariant-loop-stop l = l.key.items ≡ l.fn.key.items ++ flat_map (to_be_bytes w64) (slices_of (take l.stop-index l.path))
