use Rattle.std.proofs.Common.{refl, subst}
use Rattle.mt_journal.specs.declared.error.JournalError.{JournalError}
use Rattle.mt_journal.specs.Refusing.{LogFails}
use Rattle.mtfolder.specs.Cuts.{ended, damaged}
use Rattle.mtfolder.proofs.cutting.end_of.Goals as goal

pub returns-in-Ok-clause-reads : goal.returns-in-Ok-clause-reads
returns-in-Ok-clause-reads c = ended c.in-Ok.read.header c.in-Ok.read.entries.items c.in-Ok.read.at c.in-Ok.ensures.read refl

pub returns-in-Err-Damaged-clause-reads : goal.returns-in-Err-Damaged-clause-reads
returns-in-Err-Damaged-clause-reads c =
    damaged c.in-Err-Damaged.field-0-1
    (subst (λ (error : JournalError). LogFails c.args.columns c.args.bytes.now error) c.in-Err-Damaged.field-0-is c.in-Err-Damaged.ensures.cause)
