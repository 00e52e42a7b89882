use Rattle.mt_index.proofs.AloneRuns.{AloneSoFar, left_after}
use Rattle.mt_index.proofs.machine.Machine.do_alone.Given as goal

-- the call runs alone since the machine was what it was at first: it has begun, and its last step had this outcome
abbrev pub invariant-loop-last : goal.invariant-loop-last
invariant-loop-last l = AloneSoFar l.fn.self l.fn.request l.call l.last l.self

abbrev pub decreases-loop-last : goal.decreases-loop-last
decreases-loop-last l = left_after l.last l.self
