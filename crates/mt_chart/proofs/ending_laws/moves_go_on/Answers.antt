-- The law, by its lemmas.
use Rattle.mt_chart.proofs.Alone.{falls}
use Rattle.mt_chart.proofs.Rise.{rises}
use Rattle.mt_chart.proofs.Alone.{in_range}
use Rattle.mt_chart.proofs.ending_laws.moves_go_on.Goals as goal

pub returns-clause-higher : goal.returns-clause-higher
returns-clause-higher c = rises

pub returns-clause-bounded : goal.returns-clause-bounded
returns-clause-bounded c = in_range

pub returns-clause-fewer : goal.returns-clause-fewer
returns-clause-fewer c = falls
