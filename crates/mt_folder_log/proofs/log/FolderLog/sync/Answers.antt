use Rattle.mt_folder_log.proofs.ChangeLemmas.{recovers_fewer, synced}
use Rattle.mt_folder_log.proofs.log.FolderLog.sync.Goals as goal

-- what was written is durable, and the same
pub returns-clause-changes : goal.returns-clause-changes
returns-clause-changes g c = λ changes kept.
    let old = c.args.self.now in
    synced old.columns g.D.Disk.seen g.D.Disk.may_leave changes c.sync.result old.journal.at c.sync.new.self.at old.journal.disk c.sync.new.self.disk old.other c.sync.ensures.fewer kept
    (c.sync.ensures.kept kept.header kept.entries kept.keeps)

pub returns-clause-recover : goal.returns-clause-recover
returns-clause-recover g c = λ changes kept.
    let old = c.args.self.now in
    recovers_fewer old.columns g.D.Disk.seen g.D.Disk.may_leave changes old.journal.at old.journal.disk c.sync.new.self.disk old.other c.sync.ensures.fewer kept
