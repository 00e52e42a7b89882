-- The law, by its lemmas.
use Rattle.mt_chart.proofs.BorderLaws.{setting}
use Rattle.mt_chart.proofs.border_laws.setting_replaces_the_row.Goals as goal

pub returns : goal.returns
returns c = setting
