use Rattle.mt_works.proofs.HistoryLemmas.{scans_lead, deltas_lead, led_is_afresh}
use Rattle.mt_works.proofs.laws.scans_and_deltas_are_exact.Goals as goal

pub returns-clause-scan : goal.returns-clause-scan
returns-clause-scan c = scans_lead

pub returns-clause-delta : goal.returns-clause-delta
returns-clause-delta c = deltas_lead

pub returns-clause-end : goal.returns-clause-end
returns-clause-end c = led_is_afresh
