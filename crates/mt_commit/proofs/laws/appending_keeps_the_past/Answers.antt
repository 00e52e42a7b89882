use Rattle.mt_commit.proofs.laws.appending_keeps_the_past.Goals as goal
use Rattle.mt_commit.proofs.RowLemmas.{appending_fits, appending_keeps_rows}

pub returns-clause-fits : goal.returns-clause-fits
returns-clause-fits c = appending_fits

pub returns-clause-rows : goal.returns-clause-rows
returns-clause-rows c = appending_keeps_rows
