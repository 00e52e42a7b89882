use Rattle.std.proofs.lemmas.Result.{err_from_is_err_and}
use Rattle.mt_journal.proofs.Refused.{entries_fail}
use Rattle.mt_journal.proofs.recovery.all_entries.Goals as goal

pub returns-in_err-entry-clause-cause : goal.returns-in_err-entry-clause-cause
returns-in_err-entry-clause-cause c = λ header begun.
    let p = err_from_is_err_and c.from_residual.result c.from_residual.ensures.1 in
    let read = c.loop-entries.invariant.read header begun in
    rw (p.1, p.2) (entries_fail header c.loop-entries.entries.items c.loop-entries.at c.args.bytes.now c.in_err-entry.field-0.0 read c.in_err-entry.ensures.cause)
