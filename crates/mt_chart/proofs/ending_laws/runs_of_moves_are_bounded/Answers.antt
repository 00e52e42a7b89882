-- The law, by its lemmas.
use Rattle.mt_chart.proofs.Trail.{trail_bound}
use Rattle.mt_chart.proofs.ending_laws.runs_of_moves_are_bounded.Goals as goal

pub returns : goal.returns
returns c = trail_bound
