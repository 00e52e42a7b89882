-- The law, by its lemmas.
use Rattle.mt_chart.proofs.BorderLaws.{unlinking}
use Rattle.mt_chart.proofs.border_laws.unlinking_keeps.Goals as goal

pub returns : goal.returns
returns c = unlinking
