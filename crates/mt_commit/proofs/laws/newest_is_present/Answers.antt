use Rattle.mt_commit.proofs.laws.newest_is_present.Goals as goal
use Rattle.mt_commit.proofs.RowLemmas.{newest_is_present}

pub returns : goal.returns
returns c = newest_is_present
