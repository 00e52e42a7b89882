-- The law, by its lemmas.
use Rattle.mt_chart.proofs.InteriorLaws.{dropping_child}
use Rattle.mt_chart.proofs.inner_laws.dropping_a_child_keeps.Goals as goal

pub returns : goal.returns
returns c = dropping_child
