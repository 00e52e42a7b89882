-- The law, by its lemmas.
use Rattle.mt_chart.proofs.ScanLemmas.{scans_open, scans_right}
use Rattle.mt_chart.proofs.scan_laws.scans_answer_rightly.Goals as goal

pub returns-clause-open : goal.returns-clause-open
returns-clause-open c = scans_open

pub returns-clause-answer : goal.returns-clause-answer
returns-clause-answer c = scans_right
