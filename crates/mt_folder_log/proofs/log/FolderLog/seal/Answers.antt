use Rattle.std.proofs.Common.{ℕ, subst, sym, ◌∙◌}
use Rattle.std.proofs.lemmas.Result.{err_from_is_err_and}
use Rattle.mt_journal.specs.Appending.{with_seal}
use Rattle.mt_folder_log.specs.Folder.{AllFound, AllHaveHeader, AreKept, HasAll}
use Rattle.mt_folder_log.proofs.ChangeLemmas.{headed, sealed, seal_recovers}
use Rattle.mt_folder_log.proofs.MovingLemmas.{if_err, if_needed, is_needed}
use Rattle.mt_folder_log.proofs.log.FolderLog.seal.Goals as goal

-- the seal was written and synced, and the file before is free
pub returns-clause-sealed : goal.returns-clause-sealed
returns-clause-sealed g c = λ header entries keeps mixes.
    let o = c.in-Needed in
    let wrote = c.in_ok-write_seal.ensures in
    let taken = c.replace-other.ensures.value ∙ (wrote.other ∙ o.is) in
    if_needed _ c.args.self.now.other o.disk o.last o.copied o.has_all o.is (
      is_needed _ c.replace-other.result o.disk o.last o.copied o.has_all taken c.freed.ensures,
      wrote.sealed header entries keeps mixes,
      wrote.kept header entries keeps mixes,
    )

pub returns-clause-changes : goal.returns-clause-changes
returns-clause-changes g c = λ changes kept all mixes.
    let o = c.in-Needed in
    let old = c.args.self.now in
    let then = c.write_seal.new.self.journal in
    let wrote = c.in_ok-write_seal.ensures in
    let taken = c.replace-other.ensures.value ∙ (wrote.other ∙ o.is) in
    let was = subst (AreKept old.columns g.D.Disk.seen g.D.Disk.may_leave changes old.journal.at old.journal.disk) o.is kept in
    subst (λ (columns : ℕ). AreKept columns g.D.Disk.seen g.D.Disk.may_leave changes then.at then.disk c.freed.result) (sym c.write_seal.ensures.columns)
    (sealed old.columns g.D.Disk.seen g.D.Disk.may_leave changes o.disk o.last o.copied o.has_all old.journal.at old.journal.disk then.disk was then.at c.freed.result o.copied (subst HasAll o.is all)
    (is_needed _ c.replace-other.result o.disk o.last o.copied o.has_all taken c.freed.ensures) (wrote.sealed was.header was.entries was.keeps mixes) (wrote.kept was.header was.entries was.keeps mixes))

pub returns-in_err-write_seal-clause-recover : goal.returns-in_err-write_seal-clause-recover
returns-in_err-write_seal-clause-recover g c = λ changes kept all mixes.
    let o = c.in-Needed in
    let old = c.args.self.now in
    let then = c.write_seal.new.self.journal in
    let was = subst (AreKept old.columns g.D.Disk.seen g.D.Disk.may_leave changes old.journal.at old.journal.disk) o.is kept in
    let found = seal_recovers old.columns g.D.Disk.seen g.D.Disk.may_leave changes o.disk o.last o.copied o.has_all old.journal.at old.journal.disk then.disk was o.copied (subst HasAll o.is all)
    (c.in_err-write_seal.ensures.crash was.header was.entries was.keeps mixes) in
    if_err c.from_residual.result
    (subst (λ (columns : ℕ). AllFound columns g.D.Disk.may_leave changes old.journal.at.durable old.journal.at.generation then.disk c.write_seal.new.self.other) (sym c.write_seal.ensures.columns)
    (subst (AllFound old.columns g.D.Disk.may_leave changes old.journal.at.durable old.journal.at.generation then.disk) (sym (c.write_seal.ensures.other ∙ o.is)) found))

-- the error is that of the seal
pub returns-in_err-write_seal-clause-cause : goal.returns-in_err-write_seal-clause-cause
returns-in_err-write_seal-clause-cause g c =
    let o = c.in-Needed in
    let p = err_from_is_err_and c.from_residual.result c.from_residual.ensures.1 in
    if_needed _ c.args.self.now.other o.disk o.last o.copied o.has_all o.is (rw (p.1, p.2) c.in_err-write_seal.ensures.cause)

-- the log has its header
pub returns-in_err-write_seal-clause-heads : goal.returns-in_err-write_seal-clause-heads
returns-in_err-write_seal-clause-heads g c = λ header entries keeps mixes.
    if_err c.from_residual.result
    (headed header (with_seal c.in-Needed.copied entries) c.args.self.now.journal.at.durable (g.D.Disk.may_leave c.write_seal.new.self.journal.disk) (c.in_err-write_seal.ensures.crash header entries keeps mixes))
