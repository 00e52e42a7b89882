-- The law, by its lemmas.
use Rattle.mt_chart.proofs.InteriorLaws.{bypassing, bypassing_root}
use Rattle.mt_chart.proofs.inner_laws.bypassing_keeps.Goals as goal

pub returns-clause-inner : goal.returns-clause-inner
returns-clause-inner c = bypassing

pub returns-clause-root : goal.returns-clause-root
returns-clause-root c = bypassing_root
