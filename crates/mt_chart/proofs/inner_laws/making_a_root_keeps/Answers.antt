-- The law, by its lemmas.
use Rattle.mt_chart.proofs.InteriorLaws.{making_root, making_root_over_half}
use Rattle.mt_chart.proofs.inner_laws.making_a_root_keeps.Goals as goal

pub returns-clause-border : goal.returns-clause-border
returns-clause-border c = making_root

pub returns-clause-half : goal.returns-clause-half
returns-clause-half c = making_root_over_half
