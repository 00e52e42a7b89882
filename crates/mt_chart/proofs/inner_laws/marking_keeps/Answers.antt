-- The law, by its lemmas.
use Rattle.mt_chart.proofs.InteriorLaws.{marking_head, marking_gone, marking_gone_head}
use Rattle.mt_chart.proofs.inner_laws.marking_keeps.Goals as goal

pub returns-clause-head : goal.returns-clause-head
returns-clause-head c = marking_head

pub returns-clause-gone : goal.returns-clause-gone
returns-clause-gone c = marking_gone

pub returns-clause-gone_head : goal.returns-clause-gone_head
returns-clause-gone_head c = marking_gone_head
