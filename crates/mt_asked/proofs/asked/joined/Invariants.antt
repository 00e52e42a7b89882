use Rattle.std.proofs.Common.{◌≡◌, ◌++◌, take}
use Rattle.std.specs.List.{flat_map}
use Rattle.mt_asked.proofs.asked.joined.Given as goal

-- the columns so far follow the key
abbrev pub invariant-loop-set : goal.invariant-loop-set
invariant-loop-set l = l.all.items ≡ l.key ++ flat_map (λ set. set.bytes.now) (take l.set-index l.sets)
