use Rattle.mt_shared.proofs.RunLemmas.{gone_somewhere}
use Rattle.mt_shared.proofs.door.DoorShared.go.Goals as goal

pub returns-clause-goes : goal.returns-clause-goes
returns-clause-goes g c = gone_somewhere c.args.self.now _ c.args.pass.now c.args.call c.go.result _ c.go.new.pass _ c.go.ensures.kept.0 c.go.ensures.goes
