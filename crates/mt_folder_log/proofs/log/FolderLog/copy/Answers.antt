use Rattle.std.proofs.Common.{◌≡◌, ◌∙◌, ℕ, Bool, List, Option, Result, Ok, length, ap, subst}
use Rattle.mt_journal.specs.Appending.{with_part}
use Rattle.mt_journal.specs.declared.error.JournalError.{JournalError}
use Rattle.std.specs.Prelude.{nat_lt}
use Rattle.mt_folder_log.specs.declared.checkpoint.Other.{Other}
use Rattle.mt_folder_log.specs.declared.checkpoint.TheConstants.{PART}
use Rattle.mt_folder_log.specs.Moving.{end_of, IsAfter}
use Rattle.mt_folder_log.proofs.ChangeLemmas.{copied_if, copy_recovers_if, headed, recovers, still_headed}
use Rattle.mt_folder_log.proofs.MovingLemmas.{any_needed, if_err}
use Rattle.mt_folder_log.proofs.log.FolderLog.copy.Goals as goal

-- nothing was written
pub returns-in_err-end-clause-recover : goal.returns-in_err-end-clause-recover
returns-in_err-end-clause-recover g c = λ changes kept mixing.
    let old = c.args.self.now in
    any_needed _ old.other (λ copied. if_err c.from_residual.result (recovers old.columns g.D.Disk.seen g.D.Disk.may_leave changes old.journal.at old.journal.disk old.other kept))

pub returns-in_err-append_rows-clause-recover : goal.returns-in_err-append_rows-clause-recover
returns-in_err-append_rows-clause-recover g c = λ changes kept mixing.
    let old = c.args.self.now in
    copy_recovers_if old.columns g.D.Disk.seen g.D.Disk.may_leave changes c.from_residual-in_err-append_rows.result old.journal.at old.journal.disk c.append_rows.new.self.disk old.other c.args.part kept
    (c.append_rows.ensures.crash kept.header kept.entries kept.keeps mixing)

pub returns-clause-changes : goal.returns-clause-changes
returns-clause-changes g c = λ changes kept range mixing.
    let old = c.args.self.now in
    let then = c.append_rows.new.self in
    let last : nat_lt c.len.result c.from.result ≡ nat_lt (length c.args.part.rows) PART = ap (λ (n : ℕ). nat_lt n c.from.result) c.len.ensures ∙ ap (nat_lt (length c.args.part.rows)) c.from.ensures in
    let after = subst (λ (other : Other _). IsAfter (end_of c.args.part) (nat_lt (length c.args.part.rows) PART) other c.after.result) c.replace-other.ensures.value
    (subst (λ (end : Option (List ℕ)). IsAfter end (nat_lt (length c.args.part.rows) PART) c.replace-other.result c.after.result) c.in_ok-end.ensures.end
    (subst (λ (is_last : Bool). IsAfter c.in_ok-end.end is_last c.replace-other.result c.after.result) last c.after.ensures)) in
    let done : Result (Unit {0}) JournalError = Ok tt in
    copied_if old.columns g.D.Disk.seen g.D.Disk.may_leave changes done old.journal.at then.at old.journal.disk then.disk old.other c.after.result c.args.part kept range after
    (c.in_ok-append_rows.ensures.kept kept.header kept.entries kept.keeps mixing)

-- the log has its header
pub returns-in_err-end-clause-heads : goal.returns-in_err-end-clause-heads
returns-in_err-end-clause-heads g c = λ header entries keeps mixing.
    let journal = c.args.self.now.journal in
    if_err c.from_residual.result (still_headed journal.at (g.D.Disk.seen journal.disk) (g.D.Disk.may_leave journal.disk) header entries keeps)

pub returns-in_err-append_rows-clause-heads : goal.returns-in_err-append_rows-clause-heads
returns-in_err-append_rows-clause-heads g c = λ header entries keeps mixing.
    if_err c.from_residual-in_err-append_rows.result
    (headed header (with_part c.args.part entries) c.args.self.now.journal.at.durable (g.D.Disk.may_leave c.append_rows.new.self.disk) (c.append_rows.ensures.crash header entries keeps mixing))
