-- The law, by its lemmas.
use Rattle.mt_chart.proofs.InteriorLaws.{changing_spares, freeing, later_epochs}
use Rattle.mt_chart.proofs.inner_laws.changing_numbers_keeps.Goals as goal

pub returns-clause-spares : goal.returns-clause-spares
returns-clause-spares c = changing_spares

pub returns-clause-freed : goal.returns-clause-freed
returns-clause-freed c = freeing

pub returns-clause-epochs : goal.returns-clause-epochs
returns-clause-epochs c = later_epochs
