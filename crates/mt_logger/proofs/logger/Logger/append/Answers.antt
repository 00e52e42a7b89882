use Rattle.std.proofs.Common.{List, subst, sym}
use Rattle.mt_frame.specs.declared.entry.Record.{Record}
use Rattle.mt_journal.proofs.Kept.{all_survive}
use Rattle.mt_folder_log.specs.Folder.{AreNext}
use Rattle.mt_folder_log.proofs.ChangeLemmas.{recovers}
use Rattle.mt_logger.proofs.WriteLemmas.{append_fails, survive_with}
use Rattle.mt_logger.proofs.logger.Logger.append.Goals as goal

-- nothing was written
pub returns-then-is_empty-clause-crash : goal.returns-then-is_empty-clause-crash
returns-then-is_empty-clause-crash g c = λ header entries keeps mixing.
    let journal = c.args.self.now.log.journal in
    let may_leave = g.D.Disk.may_leave journal.disk in
    survive_with journal.at header entries _ _ _ (all_survive journal.at (g.D.Disk.seen journal.disk) may_leave may_leave header entries keeps (λ left may. may))

pub returns-in_default-clause-crash : goal.returns-in_default-clause-crash
returns-in_default-clause-crash g c = λ header entries keeps mixing.
    let journal = c.args.self.now.log.journal in
    let may_leave = g.D.Disk.may_leave journal.disk in
    survive_with journal.at header entries _ _ _ (all_survive journal.at (g.D.Disk.seen journal.disk) may_leave may_leave header entries keeps (λ left may. may))

pub returns-then-is_empty-clause-recover : goal.returns-then-is_empty-clause-recover
returns-then-is_empty-clause-recover g c = λ changes has next mixing.
    let log = c.args.self.now.log in
    recovers log.columns g.D.Disk.seen g.D.Disk.may_leave changes log.journal.at log.journal.disk log.other has

pub returns-in_default-clause-recover : goal.returns-in_default-clause-recover
returns-in_default-clause-recover g c = λ changes has next mixing.
    let log = c.args.self.now.log in
    recovers log.columns g.D.Disk.seen g.D.Disk.may_leave changes log.journal.at log.journal.disk log.other has

-- the records are those of the commits
pub returns-in-Ok-append-clause-recover : goal.returns-in-Ok-append-clause-recover
returns-in-Ok-append-clause-recover g c = λ changes has next mixing.
    let log = c.args.self.now.log in
    c.append.ensures.recover changes has (subst (λ (rs : List Record). AreNext log.columns changes log.journal.at.newest rs) (sym c.in-Ok.ensures) next) mixing

pub returns-in-Err-clause-recover : goal.returns-in-Err-clause-recover
returns-in-Err-clause-recover g c = λ changes has next mixing.
    let log = c.args.self.now.log in
    c.append.ensures.recover changes has (subst (λ (rs : List Record). AreNext log.columns changes log.journal.at.newest rs) (sym c.in-Ok.ensures) next) mixing

pub returns-in-Err-clause-cause : goal.returns-in-Err-clause-cause
returns-in-Err-clause-cause g c =
    append_fails c.args.self.now.log.journal.at _ _ _ c.in-Ok.records c.args.deltas.now c.in-Err.error c.in-Ok.ensures c.in-Err.ensures.cause
