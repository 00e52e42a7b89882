use Rattle.mt_index.proofs.LawLemmas.{log_tells_the_past, log_fits}
use Rattle.mt_index.proofs.laws.log_tells_the_past.Goals as goal

pub returns-clause-rows : goal.returns-clause-rows
returns-clause-rows c = log_tells_the_past

pub returns-clause-fits : goal.returns-clause-fits
returns-clause-fits c = log_fits
