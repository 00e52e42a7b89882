use Rattle.std.proofs.Common.{subst, sym}
use Rattle.mt_journal.specs.declared.position.Position.{Position}
use Rattle.mt_folder_log.specs.Folder.{AllFound}
use Rattle.mt_folder_log.proofs.ChangeLemmas.{recovers}
use Rattle.mt_folder_log.proofs.log.FolderLog.position.Goals as goal

pub returns-clause-recover : goal.returns-clause-recover
returns-clause-recover g c = λ changes kept.
    let self = c.args.self.now in
    subst (λ (at : Position). AllFound self.columns g.D.Disk.may_leave changes at.durable at.generation self.journal.disk self.other) (sym c.position.ensures.value)
    (recovers self.columns g.D.Disk.seen g.D.Disk.may_leave changes self.journal.at self.journal.disk self.other kept)
