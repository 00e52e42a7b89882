use Rattle.std.proofs.Common.{◌≡◌, length, reverse}
use Rattle.mt_slice.specs.Place.{under, place_of}
use Rattle.mt_scan.proofs.cursor.Cursor.new.Given as goal

-- the key's place so far, and its rest
abbrev pub invariant-loop-rest : goal.invariant-loop-rest
invariant-loop-rest l = place_of l.key ≡ under (reverse l.slices.items) (place_of l.rest)

abbrev pub decreases-loop-rest : goal.decreases-loop-rest
decreases-loop-rest l = length l.rest
