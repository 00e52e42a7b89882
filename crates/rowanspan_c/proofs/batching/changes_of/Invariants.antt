use Rattle.std.proofs.Common.{◌≡◌, map, take}
use Rattle.rowanspan_c.specs.Batches.{change_of}
use Rattle.rowanspan_c.proofs.batching.changes_of.Given as goal

-- the changes so far are made
abbrev pub invariant-loop-change : goal.invariant-loop-change
invariant-loop-change l = l.made.items ≡ map change_of (take l.change-index l.changes)
