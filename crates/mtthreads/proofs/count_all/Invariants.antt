use Rattle.mt_shared.specs.Walks.{keys_left}
use Rattle.mtthreads.proofs.count_all.Given as goal

-- fewer keys are left after each piece
abbrev pub decreases-loop-walk : goal.decreases-loop-walk
decreases-loop-walk g l = keys_left l.walk.last
