use Rattle.std.proofs.Common.{◌≡◌, take}
use Rattle.mt_batch.specs.Changes.{removed_keys}
use Rattle.mt_batch.proofs.places.removed_places.Given as goal

-- the keys of the removes so far are there
abbrev pub invariant-loop-change : goal.invariant-loop-change
invariant-loop-change l = l.places.items ≡ removed_keys (take l.change-index l.changes)
