use Rattle.std.proofs.Common.{◌≡◌}
use Rattle.mt_reads.specs.Back.{keys_before}
use Rattle.mt_reads.specs.Reading.{Reads, bound_at}
use Rattle.mt_reads.proofs.reading.Reading.next.Given as goal

-- rows of the same machine before the same bound
abbrev pub invariant-loop-self : goal.invariant-loop-self
invariant-loop-self l = record {
  reading : Reads l.self;
  machine : l.self.machine ≡ l.initial.self.machine;
  bound : bound_at l.self ≡ bound_at l.initial.self;
}

abbrev pub decreases-loop-self : goal.decreases-loop-self
decreases-loop-self l = keys_before l.self.unread
