-- The law, by its lemmas.
use Rattle.mt_chart.proofs.ScanLemmas.{of_keys}
use Rattle.mt_chart.proofs.scan_laws.answers_are_of_keys.Goals as goal

pub returns : goal.returns
returns c = of_keys
