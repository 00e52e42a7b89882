use Rattle.mt_shared.proofs.RunLemmas.{started_somewhere}
use Rattle.mt_shared.proofs.holding.HoldingDoorShared.begin.Goals as goal

-- it has to wait, and the lock is released
pub returns-then-matches-clause-starts : goal.returns-then-matches-clause-starts
returns-then-matches-clause-starts g c = started_somewhere c.args.self.now _ c.args.pass.now c.args.request c.begin-started.result _ c.begin-started.new.pass _ c.begin-started.ensures.kept.0 c.begin-started.ensures.starts

pub returns-else-matches-clause-starts : goal.returns-else-matches-clause-starts
returns-else-matches-clause-starts g c = started_somewhere c.args.self.now _ c.args.pass.now c.args.request c.begin-started.result _ c.begin-started.new.pass _ c.begin-started.ensures.kept.0 c.begin-started.ensures.starts
