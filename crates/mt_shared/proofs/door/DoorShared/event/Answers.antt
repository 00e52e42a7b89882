use Rattle.mt_shared.proofs.ToldLemmas.{does_tell}
use Rattle.mt_shared.proofs.door.DoorShared.event.Goals as goal

pub returns-clause-told : goal.returns-clause-told
returns-clause-told g c = does_tell _ c.args.pass.now c.args.event.now c.event.result _ c.event.new.pass c.event.ensures.kept.0 c.event.ensures.does
