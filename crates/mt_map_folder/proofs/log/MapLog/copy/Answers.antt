use Rattle.std.proofs.Common.{◌≡◌, ◌∙◌, ℕ, List, [], length, take, subst, arith}
use Rattle.mt_folder_log.specs.declared.checkpoint.TheConstants.{PART}
use Rattle.mt_promise.specs.Alone.{IsRangeOfMap}
use Rattle.mt_promise.specs.History.{moment, rows}
use Rattle.mt_types.specs.Rows.{after}
use Rattle.mt_folder_log.specs.Moving.{start_of}
use Rattle.mt_folder_log.proofs.ChangeLemmas.{recovers, still_headed}
use Rattle.mt_folder_log.proofs.MovingLemmas.{any_needed, if_err}
use Rattle.mt_map_folder.proofs.ChangeLemmas.{after_call, map_needed, next_rows}
use Rattle.mt_map_folder.proofs.log.MapLog.copy.Goals as goal

-- the part has the rows that the map returned
pub returns-clause-copies : goal.returns-clause-copies
returns-clause-copies g c = λ header entries keeps mixing.
    let s = c.args.map.now.machine in
    let start = c.as_slice.ensures.value ∙ c.in_ok-start.ensures.key in (
      record { at = c.commits-at.result; rows = c.in_ok-rows.rows },
      record {
        at = c.commits-at.ensures.number;
        are = λ h stands. subst (λ (from : List ℕ). IsRangeOfMap (rows s.columns (moment h)) [] from PART c.in_ok-rows.rows) start (c.in_ok-rows.ensures.pairs h stands);
      },
      c.in_ok-copy.ensures.after,
      c.in_ok-copy.ensures.kept header entries keeps mixing,
    )

-- nothing was written
pub returns-in_err-start-clause-recover : goal.returns-in_err-start-clause-recover
returns-in_err-start-clause-recover g c = λ changes has mixing.
    let log = c.args.self.now.log in
    any_needed _ log.other (λ copied. if_err c.from_residual.result (recovers log.columns g.D.Disk.seen g.D.Disk.may_leave changes log.journal.at log.journal.disk log.other has))

pub returns-in_err-rows-clause-recover : goal.returns-in_err-rows-clause-recover
returns-in_err-rows-clause-recover g c = λ changes has mixing.
    let log = c.args.self.now.log in
    any_needed _ log.other (λ copied. if_err c.from_residual-in_err-rows.result (recovers log.columns g.D.Disk.seen g.D.Disk.may_leave changes log.journal.at log.journal.disk log.other has))

-- the next rows are those after all commits
pub returns-clause-changes : goal.returns-clause-changes
returns-clause-changes g c = λ changes kept few mixing.
    let s = c.args.map.now.machine in
    let log = c.args.self.now.log in
    let n = log.journal.at.newest in
    let start = c.as_slice.ensures.value ∙ c.in_ok-start.ensures.key in
    let pairs = subst (λ (from : List ℕ). IsRangeOfMap (rows s.columns (moment kept.h)) [] from PART c.in_ok-rows.rows) start (c.in_ok-rows.ensures.pairs kept.h kept.stands) in
    let all : n ≡ length (moment kept.h).commits = omega (arith, few, kept.within, c.commits-at.ensures.told kept.h kept.stands, c.commits-at.ensures.number) in
    let range = subst (λ (C : ℕ). IsRangeOfMap (after C (take n changes)) [] (start_of log.other) PART c.in_ok-rows.rows) kept.columns (next_rows s.columns changes kept.h n kept.made (start_of log.other) c.in_ok-rows.rows all pairs) in
    map_needed log.other
    (λ copied has. after_call g.D.Disk.seen g.D.Disk.may_leave changes s c.args.self.now _ kept c.in_ok-copy.ensures.columns (omega (arith, c.in_ok-copy.ensures.newest)) (omega (arith, c.in_ok-copy.ensures.newest, kept.within)) has)
    (c.in_ok-copy.ensures.changes changes kept.kept range mixing)

-- the log has its header
pub returns-in_err-start-clause-heads : goal.returns-in_err-start-clause-heads
returns-in_err-start-clause-heads g c = λ header entries keeps mixing.
    let journal = c.args.self.now.log.journal in
    if_err c.from_residual.result (still_headed journal.at (g.D.Disk.seen journal.disk) (g.D.Disk.may_leave journal.disk) header entries keeps)

pub returns-in_err-rows-clause-heads : goal.returns-in_err-rows-clause-heads
returns-in_err-rows-clause-heads g c = λ header entries keeps mixing.
    let journal = c.args.self.now.log.journal in
    if_err c.from_residual-in_err-rows.result (still_headed journal.at (g.D.Disk.seen journal.disk) (g.D.Disk.may_leave journal.disk) header entries keeps)

pub returns-in_err-copy-clause-heads : goal.returns-in_err-copy-clause-heads
returns-in_err-copy-clause-heads g c = λ header entries keeps mixing. if_err c.from_residual-in_err-copy.result (c.in_err-copy.ensures.heads header entries keeps mixing)
