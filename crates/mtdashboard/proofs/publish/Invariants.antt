use Rattle.std.proofs.Common.{◌≡◌}
use Rattle.mt_publish.specs.Carried.{source_of}
use Rattle.mtdashboard.proofs.publish.Given as goal

abbrev pub invariant-loop : goal.invariant-loop
invariant-loop g l = source_of l.publisher ≡ source_of l.fn.publisher
