use Rattle.mt_folder_log.proofs.ChangeLemmas.{headed}
use Rattle.mt_lives.proofs.ReachLemmas.{left_by, own}
use Rattle.mt_lives.proofs.taking.sync.Goals as goal

pub returns-in-Err-clause-fails : goal.returns-in-Err-clause-fails
returns-in-Err-clause-fails g c = λ C a lived.
    let old = c.args.opened.now in
    let kept = own g.D.Disk.seen g.D.Disk.may_leave C a old.map.machine old.log lived in
    let e = c.in-Err.ensures in
    left_by g.D.Disk.seen g.D.Disk.may_leave C a old.map.machine old.log lived c.sync.new.self e.columns
    (headed kept.kept.header kept.kept.entries old.log.log.journal.at.durable (g.D.Disk.may_leave c.sync.new.self.log.journal.disk) (e.crash kept.kept.header kept.kept.entries kept.kept.keeps))
    (e.recover a.changes kept.kept)
