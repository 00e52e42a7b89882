-- The law, by its lemmas.
use Rattle.mt_chart.proofs.BorderLaws.{hiding}
use Rattle.mt_chart.proofs.border_laws.hiding_removes_the_row.Goals as goal

pub returns : goal.returns
returns c = hiding
