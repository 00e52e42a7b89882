use Rattle.mt_journal.proofs.Frames.{logs_read_one_way}
use Rattle.mt_journal.proofs.laws.logs_are_read_one_way.Goals as goal

pub returns : goal.returns
returns c = logs_read_one_way
