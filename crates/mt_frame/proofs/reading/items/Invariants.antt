use Rattle.std.proofs.Common.{◌≡◌, ◌-◌}
use Rattle.mt_wire.specs.Reading.{times_at}
use Rattle.mt_wire.proofs.Loop.{with_front}
use Rattle.mt_frame.proofs.reading.items.Given as goal

-- the items so far and those to come are all of them
abbrev pub invariant-loop : goal.invariant-loop
invariant-loop g l = with_front l.items.items (times_at g.T.Readable.reading (l.count - l.counter) l.input) ≡ times_at g.T.Readable.reading l.count l.fn.input
