use Rattle.std.proofs.Common.{◌≡◌}
use Rattle.mt_check.specs.Ranges.{walks, lacks_in, shows_in, walks_in, AllRise}
use Rattle.mt_check.proofs.ranges.walk.Given as goal

abbrev pub invariant-loop-key : goal.invariant-loop-key
invariant-loop-key l = record {
  walked :
      walks (lacks_in l.span.from l.span.to) (shows_in l.asked.columns.now l.span.from l.span.to) l.full l.key-iterator l.rest
      ≡ walks_in l.versions l.asked.start.now l.asked.limit l.asked.columns.now l.span.from l.span.to l.pairs;
  rise : AllRise l.key-iterator;
}
