-- A remove of which no delta stays in the log.
use Rattle.std.proofs.lemmas.Result.{err_from_is_err_and}
use Rattle.mt_write.proofs.UnreadLemmas.{passes_found, remove_fails}
use Rattle.mt_write.proofs.writing.Write.remove_unread.Goals as goal

pub returns-in_err-reserve : goal.returns-in_err-reserve
returns-in_err-reserve c = λ C there act. let p = err_from_is_err_and c.from_residual.result c.from_residual.ensures.1 in rw (p.1, p.2)
    (remove_fails C c.args.tree.now c.args.log.now c.reserve.new.self c.args.self.now there c.in-Remove-Row.is-0 c.args.found act.finds c.in-Remove-Row.place c.in-Remove-Row.is-1 c.border-border.result.now c.border-border.ensures.value
    _ c.in_err-reserve.field-0.0 c.in_err-reserve.ensures.err c.in_err-reserve.ensures.fault)

pub returns : goal.returns
returns c = λ C there act. passes_found C c.args.tree.now c.args.log.now c.reserve.new.self c.args.self.now there c.in-Remove-Row.is-0 c.args.found act.finds c.in-Remove-Row.place c.in-Remove-Row.is-1 c.border-border.result.now c.border-border.ensures.value
    c.border-border.ensures.sound c.rest_of-bytes.ensures.bytes c.rest_of-bytes.ensures.fits _ c.in_ok-reserve.field-0 c.in_ok-reserve.ensures.ok c.in_ok-reserve.ensures.fault act c.hide_row.new.self c.pass.new.self c.number.result
    c.number.ensures.value c.hide_row.ensures.value c.hide_row.ensures.hides c.pass.ensures.after c.pass.ensures.next c.reserve.ensures.sound c.free_numbers-hidden.ensures.arena
