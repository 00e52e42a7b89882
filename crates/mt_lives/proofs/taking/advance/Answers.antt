use Rattle.std.proofs.Common.{◌∙◌, refl}
use Rattle.mt_folder_log.proofs.MovingLemmas.{if_err}
use Rattle.mt_lives.proofs.ReachLemmas.{left_by, logged, own, stays}
use Rattle.mt_lives.proofs.taking.advance.Goals as goal

pub returns-in_err-advance-clause-fails : goal.returns-in_err-advance-clause-fails
returns-in_err-advance-clause-fails g c = λ C a lived mixes.
    let old = c.args.opened.now in
    let kept = own g.D.Disk.seen g.D.Disk.may_leave C a old.map.machine old.log lived in
    let e = c.in_err-advance.ensures in
    if_err c.from_residual.result
    (left_by g.D.Disk.seen g.D.Disk.may_leave C a old.map.machine old.log lived c.advance.new.self e.columns
    (e.heads kept.kept.header kept.kept.entries kept.kept.keeps mixes) (e.recover a.changes kept.kept mixes))

pub returns-clause-leads : goal.returns-clause-leads
returns-clause-leads g c = λ C a lived mixes.
    let old = c.args.opened.now in
    let new = c.advance.new.self in
    let o = c.in_ok-advance.ensures in (
      a,
      refl,
      logged g.D.Disk.seen g.D.Disk.may_leave C a old.map.machine old.log lived new a.written a.durable (λ later front. o.changes later (lived.kept later front) mixes)
          (o.newest ∙ lived.written) (stays g.D.Disk.seen g.D.Disk.may_leave C a old.map.machine old.log lived new.log.journal.at o.durable),
    )
