use Rattle.mt_shared.proofs.ChangeLemmas.{changed_somewhere}
use Rattle.mt_shared.proofs.door.DoorShared.change.Goals as goal

pub returns-clause-changes : goal.returns-clause-changes
returns-clause-changes g c = changed_somewhere c.args.self.now _ _ c.args.pass.now c.args.request c.args.turns c.change.result _ c.change.new.pass c.change.ensures.kept.0 c.change.ensures.changes
