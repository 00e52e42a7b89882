use Rattle.std.proofs.Common.{◌≡◌, ◌∙◌, ◌+◌, ◌⊎◌, ℕ, [], ap, subst, sym, inl, inr}
use Rattle.std.proofs.lemmas.Result.{on_err_weaker, on_ok_weaker}
use Rattle.std.specs.Prelude.{OnOk}
use Rattle.mt_frame.specs.declared.entry.LogHeader.{LogHeader}
use Rattle.mt_journal.specs.declared.position.Position.{Position}
use Rattle.mt_journal.specs.Keeping.{Keeps}
use Rattle.mt_journal.specs.Keeping.{AllAreLogs}
use Rattle.mt_folder_log.specs.declared.checkpoint.Other.{Other}
use Rattle.mt_folder_log.specs.declared.checkpoint.Other.TheVariants.{Gone}
use Rattle.mt_folder_log.specs.Moving.{IsFree, Needs}
use Rattle.mt_folder_log.specs.Folder.{AllFound, AllHaveHeader, AreKept, HasRole}
use Rattle.mt_folder_log.proofs.ChangeLemmas.{beside_free, headed, moved, recovers, recovers_spare, still_headed}
use Rattle.mt_folder_log.proofs.MovingLemmas.{both_err, both_ok, if_err, if_free}
use Rattle.mt_folder_log.specs.Moving.{continued}
use Rattle.mt_folder_log.proofs.log.FolderLog.begin.Given.{Over}
use Rattle.mt_folder_log.proofs.log.FolderLog.begin.Goals as goal

-- the log that was made has the header of the one that continues
begun : (g : Over) (c : goal.After-move_to g) → OnOk c.move_to.result (Keeps c.move_to.new.self.journal.at (g.D.Disk.seen c.move_to.new.self.journal.disk) (g.D.Disk.may_leave c.move_to.new.self.journal.disk) (continued c.args.self.now.columns c.args.self.now.journal.at) [])
begun g c =
    let new = c.move_to.new.self.journal in
    let at = c.position-at.ensures.value in
    let generation = c.in-Some.ensures.1 ∙ ap (λ (p : Position). p.generation + 1) at in
    let header : record { columns = c.args.self.now.columns; generation = c.in-Some.generation; base = c.position-at.result.newest; run = 0 } ≡ continued c.args.self.now.columns c.args.self.now.journal.at =
    λ i. record { columns = c.args.self.now.columns; generation = generation i; base = (at i).newest; run = 0 } in
    subst (λ (h : LogHeader). OnOk c.move_to.result (Keeps new.at (g.D.Disk.seen new.disk) (g.D.Disk.may_leave new.disk) h [])) header c.move_to.ensures.begins

pub returns-clause-begins : goal.returns-clause-begins
returns-clause-begins g c = λ some. if_free _ c.args.self.now.other (begun g c)

-- the file before is that of the log that was synced
pub returns-clause-before : goal.returns-clause-before
returns-clause-before g c = λ header entries keeps some.
    let whole = c.in_ok-_durable.ensures.whole header entries keeps in
    if_free _ c.args.self.now.other
    (on_ok_weaker c.move_to.result (λ is. subst (λ (other : Other _). Needs other (λ disk. AllAreLogs header entries (g.D.Disk.may_leave disk))) (sym is) whole) c.move_to.ensures.before)

pub returns-clause-stays : goal.returns-clause-stays
returns-clause-stays g c = λ header entries keeps asks.
    let kept = c.in_ok-_durable.ensures.kept header entries keeps in
    on_err_weaker c.move_to.result (λ same. subst (λ (journal : _). Keeps journal.at (g.D.Disk.seen journal.disk) (g.D.Disk.may_leave journal.disk) header entries) (sym same) kept) c.move_to.ensures.stays

pub returns-clause-again : goal.returns-clause-again
returns-clause-again g c = if_free _ c.args.self.now.other c.move_to.ensures.again

pub returns-clause-full : goal.returns-clause-full
returns-clause-full g c = if_free _ c.args.self.now.other c.move_to.ensures.full

-- nothing has moved
pub returns-in_default-clause-recover : goal.returns-in_default-clause-recover
returns-in_default-clause-recover g c = λ changes kept.
    let old = c.args.self.now in
    recovers old.columns g.D.Disk.seen g.D.Disk.may_leave changes old.journal.at old.journal.disk old.other kept

pub returns-in-Gone-clause-recover : goal.returns-in-Gone-clause-recover
returns-in-Gone-clause-recover g c = λ changes kept.
    let old = c.args.self.now in
    let same = c.replace.ensures.after ∙ sym c.in-Gone.is ∙ c.replace.ensures.value in
    subst (AllFound old.columns g.D.Disk.may_leave changes old.journal.at.durable old.journal.at.generation old.journal.disk) (sym same)
    (recovers old.columns g.D.Disk.seen g.D.Disk.may_leave changes old.journal.at old.journal.disk old.other kept)

-- the log was not made durable
pub returns-in_err-_durable-clause-recover : goal.returns-in_err-_durable-clause-recover
returns-in_err-_durable-clause-recover g c = λ changes kept.
    let old = c.args.self.now in
    let free = sym c.replace.ensures.value ∙ c.in-Free.is in
    if_err c.from_residual.result
    (recovers_spare old.columns g.D.Disk.seen g.D.Disk.may_leave changes old.journal.at old.journal.disk c.sync.new.self.disk old.other c.replace.new.dest
    (beside_free old.columns g.D.Disk.seen g.D.Disk.may_leave changes old.journal.at.durable old.journal.at.generation c.in-Free.disk c.in-Free.most old.other c.replace.new.dest free (inl c.replace.ensures.after))
    c.sync.ensures.fewer kept)

-- the log has moved: what it had is in the file before
pub returns-clause-changes : goal.returns-clause-changes
returns-clause-changes g c = λ changes kept.
    let old = c.args.self.now in
    let then = c.move_to.new.self in
    let free = sym c.replace.ensures.value ∙ c.in-Free.is in
    let whole = subst (λ (other : Other _). HasRole old.columns changes g.D.Disk.may_leave other kept.header kept.entries (g.D.Disk.may_leave old.journal.disk)) free kept.role in
    both_ok c.move_to.result
    (λ keeps is.
    subst (λ (columns : ℕ). AreKept columns g.D.Disk.seen g.D.Disk.may_leave changes then.journal.at then.journal.disk then.other) (sym c.move_to.ensures.columns)
    (subst (AreKept old.columns g.D.Disk.seen g.D.Disk.may_leave changes then.journal.at then.journal.disk) (sym is)
    (moved old.columns g.D.Disk.seen g.D.Disk.may_leave changes old.journal.at then.journal.at old.journal.disk c.sync.new.self.disk then.journal.disk old.other kept whole
    (c.in_ok-_durable.ensures.whole kept.header kept.entries kept.keeps) keeps)))
    (begun g c) c.move_to.ensures.before

-- it has not moved, and whatever the other file has is not needed
pub returns-clause-recover : goal.returns-clause-recover
returns-clause-recover g c = λ changes kept.
    let old = c.args.self.now in
    let then = c.move_to.new.self in
    let free = sym c.replace.ensures.value ∙ c.in-Free.is in
    both_err c.move_to.result
    (λ same which.
    let spare : (then.other ≡ Gone) ⊎ IsFree then.other = elim which [
      | inl other ↦ inl (other ∙ c.replace.ensures.after)
      | inr is ↦ inr is
    ] in
    subst (λ (columns : ℕ). AllFound columns g.D.Disk.may_leave changes old.journal.at.durable old.journal.at.generation then.journal.disk then.other) (sym c.move_to.ensures.columns)
    (subst (λ (journal : _). AllFound old.columns g.D.Disk.may_leave changes old.journal.at.durable old.journal.at.generation journal.disk then.other) (sym same)
    (recovers_spare old.columns g.D.Disk.seen g.D.Disk.may_leave changes old.journal.at old.journal.disk c.sync.new.self.disk old.other then.other
    (beside_free old.columns g.D.Disk.seen g.D.Disk.may_leave changes old.journal.at.durable old.journal.at.generation c.in-Free.disk c.in-Free.most old.other then.other free spare)
    c.sync.ensures.fewer kept)))
    c.move_to.ensures.stays c.move_to.ensures.spare

-- the log that stays has its header
pub returns-in_default-clause-heads : goal.returns-in_default-clause-heads
returns-in_default-clause-heads g c = λ header entries keeps.
    let journal = c.args.self.now.journal in
    still_headed journal.at (g.D.Disk.seen journal.disk) (g.D.Disk.may_leave journal.disk) header entries keeps

pub returns-in-Gone-clause-heads : goal.returns-in-Gone-clause-heads
returns-in-Gone-clause-heads g c = λ header entries keeps.
    let journal = c.args.self.now.journal in
    still_headed journal.at (g.D.Disk.seen journal.disk) (g.D.Disk.may_leave journal.disk) header entries keeps

pub returns-in_err-_durable-clause-heads : goal.returns-in_err-_durable-clause-heads
returns-in_err-_durable-clause-heads g c = λ header entries keeps.
    if_err c.from_residual.result (headed header entries c.args.self.now.journal.at.durable (g.D.Disk.may_leave c.sync.new.self.disk) (c.sync.ensures.crash header entries keeps))

pub returns-clause-heads : goal.returns-clause-heads
returns-clause-heads g c = λ header entries keeps.
    let kept = c.in_ok-_durable.ensures.kept header entries keeps in
    let journal = c.sync.new.self in
    on_err_weaker c.move_to.result
    (λ same. subst (λ (j : _). AllHaveHeader header (g.D.Disk.may_leave j.disk)) (sym same) (still_headed journal.at (g.D.Disk.seen journal.disk) (g.D.Disk.may_leave journal.disk) header entries kept))
    c.move_to.ensures.stays
