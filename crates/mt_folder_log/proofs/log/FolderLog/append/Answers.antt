use Rattle.mt_folder_log.proofs.ChangeLemmas.{appended, append_recovers}
use Rattle.mt_folder_log.proofs.log.FolderLog.append.Goals as goal

-- the next commits were appended
pub returns-clause-changes : goal.returns-clause-changes
returns-clause-changes g c = λ changes kept next mixing.
    let old = c.args.self.now in
    appended old.columns g.D.Disk.seen g.D.Disk.may_leave changes old.journal.at old.journal.disk c.append.new.self.disk old.other c.args.records kept next (c.append.ensures.fronts kept.header kept.entries kept.keeps)
    c.append.result c.append.new.self.at (c.append.ensures.kept kept.header kept.entries kept.keeps mixing)

pub returns-clause-recover : goal.returns-clause-recover
returns-clause-recover g c = λ changes kept next mixing.
    let old = c.args.self.now in
    append_recovers old.columns g.D.Disk.seen g.D.Disk.may_leave changes old.journal.at old.journal.disk c.append.new.self.disk old.other c.args.records kept next (c.append.ensures.fronts kept.header kept.entries kept.keeps)
    (c.append.ensures.crash kept.header kept.entries kept.keeps mixing)
