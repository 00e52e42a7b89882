use Rattle.mt_journal.proofs.opening.open.Goals as goal

pub returns-clause-refused : goal.returns-clause-refused
returns-clause-refused g c = λ header others log same small. (c.recover.new.disk, λ clean. tt)
