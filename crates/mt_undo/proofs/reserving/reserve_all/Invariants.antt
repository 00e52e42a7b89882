use Rattle.std.proofs.Common.{◌≡◌, ◌+◌}
use Rattle.mt_undo.proofs.reserving.reserve_all.Given as goal

abbrev pub invariant-loop-made : goal.invariant-loop-made
invariant-loop-made l = l.log ≡ record l.fn.log { reserved = l.fn.log.reserved + l.made }
