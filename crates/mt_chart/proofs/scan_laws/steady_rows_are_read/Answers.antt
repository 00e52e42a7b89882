-- The law, by its lemmas.
use Rattle.mt_chart.proofs.ScanLemmas.{steady, never_read}
use Rattle.mt_chart.proofs.scan_laws.steady_rows_are_read.Goals as goal

pub returns-clause-steady : goal.returns-clause-steady
returns-clause-steady c = steady

pub returns-clause-never : goal.returns-clause-never
returns-clause-never c = never_read
