use Rattle.std.proofs.Common.{subst}
use Rattle.mt_journal.specs.declared.position.Position.{Position}
use Rattle.mt_folder_log.specs.Folder.{AllRecover}
use Rattle.mt_map_folder.proofs.log.MapLog.durable.Goals as goal

pub returns-clause-recover : goal.returns-clause-recover
returns-clause-recover g c = λ changes has.
    let log = c.args.self.now.log in
    subst (λ (at : Position). AllRecover g.D.Disk.may_leave changes c.position.result.durable at.generation log) c.position.ensures.value (c.position.ensures.recover changes has)
