-- The law, by its lemma.
use Rattle.mt_chart.proofs.ListNoted.{lists_are_noted}
use Rattle.mt_chart.proofs.noted_laws.lists_are_noted.Goals as goal

pub returns : goal.returns
returns c = lists_are_noted
