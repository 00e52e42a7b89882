use Rattle.std.proofs.Common.{[], subst, inr}
use Rattle.std.proofs.lemmas.Result.{err_from_is_err_and}
use Rattle.mt_frame.specs.declared.entry.LogHeader.{LogHeader}
use Rattle.mt_journal.specs.Recovery.{HasRead}
use Rattle.mt_journal.proofs.recovery.read_log.Goals as goal

pub returns-in_err-header-clause-refused : goal.returns-in_err-header-clause-refused
returns-in_err-header-clause-refused c = λ header others log same small.
    let p = err_from_is_err_and c.from_residual.result c.from_residual.ensures.1 in
    rw (p.1, p.2) (c.in_err-header.ensures.refused header others log same)

pub returns-in_err-entries-clause-refused : goal.returns-in_err-entries-clause-refused
returns-in_err-entries-clause-refused c = λ header others log same small.
    let p = err_from_is_err_and c.from_residual-in_err-entries.result c.from_residual-in_err-entries.ensures.1 in
    let one = c.in_ok-header.ensures.refused header others log same in
    let read = subst (λ (h : LogHeader). HasRead h [] c.in_ok-header.at c.args.bytes.now) one c.in_ok-header.ensures.read.0 in
    rw (p.1, p.2) (c.in_err-entries.ensures.refused header others read log small)

pub returns-in_err-entries-clause-cause : goal.returns-in_err-entries-clause-cause
returns-in_err-entries-clause-cause c =
    let p = err_from_is_err_and c.from_residual-in_err-entries.result c.from_residual-in_err-entries.ensures.1 in
    let read = c.in_ok-header.ensures.read.0 in
    rw (p.1, p.2) (inr (c.in_ok-header.header, c.in_ok-header.ensures.columns, c.in_err-entries.ensures.cause c.in_ok-header.header read))
