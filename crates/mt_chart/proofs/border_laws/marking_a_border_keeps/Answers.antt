-- The law, by its lemmas.
use Rattle.mt_chart.proofs.BorderLaws.{marking, marking_gone_border}
use Rattle.mt_chart.proofs.border_laws.marking_a_border_keeps.Goals as goal

pub returns-clause-on : goal.returns-clause-on
returns-clause-on c = marking

pub returns-clause-gone : goal.returns-clause-gone
returns-clause-gone c = marking_gone_border
