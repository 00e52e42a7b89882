-- The law, by its lemmas.
use Rattle.mt_chart.proofs.Alone.{lone_get, stays_on}
use Rattle.mt_chart.proofs.ending_laws.lone_calls_end.Goals as goal

pub returns-clause-get : goal.returns-clause-get
returns-clause-get c = lone_get

pub returns-clause-stays : goal.returns-clause-stays
returns-clause-stays c = stays_on
