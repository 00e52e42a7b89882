-- The law, by its lemmas.
use Rattle.mt_chart.proofs.BorderLaws.{showing}
use Rattle.mt_chart.proofs.border_laws.showing_adds_the_row.Goals as goal

pub returns : goal.returns
returns c = showing
