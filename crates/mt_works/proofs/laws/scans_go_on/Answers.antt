use Rattle.mt_works.proofs.ReadLemmas.{others_keep, restarts_keep, ways_keep}
use Rattle.mt_works.proofs.laws.scans_go_on.Goals as goal

pub returns-clause-others : goal.returns-clause-others
returns-clause-others c = others_keep

pub returns-clause-again : goal.returns-clause-again
returns-clause-again c = restarts_keep

pub returns-clause-way : goal.returns-clause-way
returns-clause-way c = ways_keep
