use Rattle.mt_reads.specs.Walks.{keys_to_come}
use Rattle.mtstore.proofs.print_rows.Given as goal

-- fewer keys are to come after each row
abbrev pub decreases-loop-rows : goal.decreases-loop-rows
decreases-loop-rows g l = keys_to_come l.rows.walk.at
