use Rattle.mt_commit.proofs.laws.each_delta_makes_rows.Goals as goal
use Rattle.mt_commit.proofs.RowLemmas.{each_delta_makes_rows}

pub returns : goal.returns
returns c = each_delta_makes_rows
