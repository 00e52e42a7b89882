-- The law, by its lemmas.
use Rattle.mt_chart.proofs.ScanLemmas.{outcomes}
use Rattle.mt_chart.proofs.scan_laws.visits_have_outcomes.Goals as goal

pub returns : goal.returns
returns c = outcomes
