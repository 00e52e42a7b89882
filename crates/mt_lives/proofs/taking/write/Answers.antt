use Rattle.std.proofs.Common.{◌+◌, ◌-◌, min, length, refl}
use Rattle.mt_types.specs.declared.limits.TheConstants.{MAX_RANGE}
use Rattle.mt_folder_log.proofs.ChangeLemmas.{headed}
use Rattle.mt_folder_log.proofs.MovingLemmas.{if_err}
use Rattle.mt_lives.proofs.ReachLemmas.{left_by, logged, own, stays}
use Rattle.mt_lives.proofs.TurnLemmas.{next_written}
use Rattle.mt_lives.proofs.taking.write.Goals as goal

pub returns-in_err-write-clause-fails : goal.returns-in_err-write-clause-fails
returns-in_err-write-clause-fails g c = λ C a lived mixes.
    let old = c.args.opened.now in
    let new = c.write.new.self in
    let kept = own g.D.Disk.seen g.D.Disk.may_leave C a old.map.machine old.log lived in
    let e = c.in_err-write.ensures in
    if_err c.from_residual.result
    (left_by g.D.Disk.seen g.D.Disk.may_leave C a old.map.machine old.log lived new e.columns
    (headed kept.kept.header _ old.log.log.journal.at.durable (g.D.Disk.may_leave new.log.journal.disk)
    (e.crash kept.h kept.kept.header kept.kept.entries kept.stands kept.kept.keeps (mixes new.log.journal.disk)))
    (e.recover a.changes kept (mixes new.log.journal.disk)))

pub returns-clause-leads : goal.returns-clause-leads
returns-clause-leads g c = λ C a lived mixes.
    let old = c.args.opened.now in
    let new = c.write.new.self in
    let kept = own g.D.Disk.seen g.D.Disk.may_leave C a old.map.machine old.log lived in
    let o = c.in_ok-write.ensures in
    let written = a.written + min MAX_RANGE (length a.changes - a.written) in (
      record { changes = a.changes; written = written; durable = a.durable },
      refl,
      logged g.D.Disk.seen g.D.Disk.may_leave C a old.map.machine old.log lived new written a.durable (λ later front. o.changes later (lived.kept later front) (mixes new.log.journal.disk))
          (next_written g.D.Disk.seen g.D.Disk.may_leave C a old.map.machine old.log lived kept.h kept.stands new.log.journal.at.newest (o.newest kept.h kept.stands))
          (stays g.D.Disk.seen g.D.Disk.may_leave C a old.map.machine old.log lived new.log.journal.at o.durable),
    )
