use Rattle.std.proofs.Common.{◌≡◌}
use Rattle.mt_publish.specs.Carried.{reader_source}
use Rattle.mtdashboard.proofs.watch.Given as goal

abbrev pub invariant-loop : goal.invariant-loop
invariant-loop l = reader_source l.reader ≡ reader_source l.fn.reader
