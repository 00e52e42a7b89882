use Rattle.std.proofs.Common.{◌≡◌, drop, map, take}
use Rattle.std.specs.List.{flat_map}
use Rattle.mt_asked.specs.Borrowed.{set_of}
use Rattle.mt_asked.proofs.asked.sets_from.Given as goal

-- the sets so far are cut, and the columns of the others are left
abbrev pub invariant-loop-set : goal.invariant-loop-set
invariant-loop-set l = (l.sets.items ≡ map set_of (take l.set-index l.from))
    × (l.rest ≡ flat_map (λ set. set.bytes.now) (drop l.set-index l.from))
