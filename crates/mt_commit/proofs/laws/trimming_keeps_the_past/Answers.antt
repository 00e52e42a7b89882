use Rattle.mt_commit.proofs.laws.trimming_keeps_the_past.Goals as goal
use Rattle.mt_commit.proofs.RowLemmas.{trimming_fits, trimming_keeps_rows}

pub returns-clause-fits : goal.returns-clause-fits
returns-clause-fits c = trimming_fits

pub returns-clause-rows : goal.returns-clause-rows
returns-clause-rows c = trimming_keeps_rows
