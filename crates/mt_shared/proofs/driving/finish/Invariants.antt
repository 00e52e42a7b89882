use Rattle.std.proofs.Common.{◌-◌, ◌^◌}
use Rattle.mt_shared.proofs.DriveLemmas.{UnderWay}
use Rattle.mt_shared.proofs.driving.finish.Given as goal

-- the call has begun, and has been driven so far
abbrev pub invariant-loop-end : goal.invariant-loop-end
invariant-loop-end g l = UnderWay g.S.Shared.does l.fn.seen l.fn.started l.fn.shared l.fn.pass l.call l.shared l.pass

-- each run counts an event or more
abbrev pub decreases-loop-end : goal.decreases-loop-end
decreases-loop-end g l = 2 ^ 64 - l.pass.events
