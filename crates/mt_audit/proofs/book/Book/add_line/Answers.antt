use Rattle.mt_audit.proofs.BookLemmas.{placed, cannot_read}
use Rattle.mt_audit.proofs.book.Book.add_line.Goals as goal

pub returns-in-Ok-add-clause-adds : goal.returns-in-Ok-add-clause-adds
returns-in-Ok-add-clause-adds c =
    placed c.args.columns c.args.line.now c.in-Ok.said c.args.self.now c.add.new.self c.in-Ok-add.placed c.in-Ok.ensures.value c.in-Ok.ensures.taken c.in-Ok-add.ensures

pub returns-in-Err-Bad-clause-adds : goal.returns-in-Err-Bad-clause-adds
returns-in-Err-Bad-clause-adds c = λ lines book. cannot_read c.args.columns lines c.args.line.now (rw c.in-Err-Bad.field-0-is at c.in-Err-Bad.ensures.value)
