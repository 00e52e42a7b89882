use Rattle.std.proofs.Common.{arith}
use Rattle.mt_folder_log.proofs.MovingLemmas.{both_ok}
use Rattle.mt_map_folder.proofs.ChangeLemmas.{after_call}
use Rattle.mt_map_folder.proofs.log.MapLog.sync.Goals as goal

pub returns-clause-changes : goal.returns-clause-changes
returns-clause-changes g c = λ changes s kept.
    both_ok c.sync.result
    (λ newest has. after_call g.D.Disk.seen g.D.Disk.may_leave changes s c.args.self.now _ kept c.sync.ensures.columns (omega (arith, newest)) (omega (arith, newest, kept.within)) has)
    c.sync.ensures.newest (c.sync.ensures.changes changes kept.kept)
