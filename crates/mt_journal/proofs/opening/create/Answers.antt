use Rattle.std.proofs.lemmas.Result.{err_from_is_err_and}
use Rattle.mt_journal.proofs.opening.create.Goals as goal

pub returns-clause-cause : goal.returns-clause-cause
returns-clause-cause g c = (c.start.new.disk, c.in_ok-at.ensures.cause)

pub returns-in_err-at-clause-cause : goal.returns-in_err-at-clause-cause
returns-in_err-at-clause-cause g c =
    let p = err_from_is_err_and c.from_residual.result c.from_residual.ensures.1 in
    (c.start.new.disk, rw (p.1, p.2) c.in_err-at.ensures.cause)
