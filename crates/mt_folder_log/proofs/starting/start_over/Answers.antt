use Rattle.std.proofs.Common.{subst}
use Rattle.mt_journal.specs.Causes.{OpenHasCause}
use Rattle.mt_folder_log.proofs.starting.start_over.Goals as goal

-- a log is never begun with this error
pub returns-clause-never : goal.returns-clause-never
returns-clause-never g c = λ is.
    (subst (λ r. OpenHasCause r (g.D.Disk.is_usable c.set_len.new.self) (λ error. ⊥) (g.D.Disk.faults c.set_len.new.self) (g.D.Disk.faults c.start.new.disk)) is c.start.ensures.cause).1
