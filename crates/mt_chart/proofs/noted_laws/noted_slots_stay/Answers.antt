-- The law, by its lemma.
use Rattle.mt_chart.proofs.NotedLemmas.{noted_slots_stay}
use Rattle.mt_chart.proofs.noted_laws.noted_slots_stay.Goals as goal

pub returns : goal.returns
returns c = noted_slots_stay
