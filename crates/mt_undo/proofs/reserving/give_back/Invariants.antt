use Rattle.std.proofs.Common.{◌≡◌, ◌-◌}
use Rattle.mt_undo.proofs.reserving.give_back.Given as goal

abbrev pub invariant-loop-given : goal.invariant-loop-given
invariant-loop-given l = l.log ≡ record l.fn.log { reserved = l.fn.log.reserved - l.given }
