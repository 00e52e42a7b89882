use Rattle.mt_journal.proofs.Frames.{logs_have_their_fronts}
use Rattle.mt_journal.proofs.laws.logs_have_their_fronts.Goals as goal

pub returns : goal.returns
returns c = logs_have_their_fronts
