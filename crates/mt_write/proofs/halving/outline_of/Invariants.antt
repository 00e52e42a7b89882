use Rattle.std.proofs.Common.{◌≡◌, map, take}
use Rattle.mt_steps.specs.Entering.{entry_noted}
use Rattle.mt_write.proofs.halving.outline_of.Given as goal

-- the keys so far are noted
abbrev pub invariant-loop-place : goal.invariant-loop-place
invariant-loop-place l = l.keys.items ≡ map entry_noted (take l.place l.border.live)
