use Rattle.mt_shared.proofs.RunLemmas.{started_somewhere}
use Rattle.mt_shared.proofs.door.DoorShared.begin.Goals as goal

pub returns-clause-starts : goal.returns-clause-starts
returns-clause-starts g c = started_somewhere c.args.self.now _ c.args.pass.now c.args.request c.begin.result _ c.begin.new.pass _ c.begin.ensures.kept.0 c.begin.ensures.starts
