-- The law, by its lemmas.
use Rattle.mt_chart.proofs.InteriorLaws.{posting_half, keeping_children, fewer_twins}
use Rattle.mt_chart.proofs.inner_laws.splitting_an_interior_keeps.Goals as goal

pub returns-clause-half : goal.returns-clause-half
returns-clause-half c = posting_half

pub returns-clause-cut : goal.returns-clause-cut
returns-clause-cut c = keeping_children

pub returns-clause-apart : goal.returns-clause-apart
returns-clause-apart c = fewer_twins
