use Rattle.mt_folder_log.proofs.ChangeLemmas.{begins}
use Rattle.mt_folder_log.proofs.log.FolderLog.new.Goals as goal

-- no log is needed but the first
pub returns-clause-begins : goal.returns-clause-begins
returns-clause-begins g c = λ keeps unneeded changes.
    begins c.args.columns g.D.Disk.seen g.D.Disk.may_leave changes c.args.journal.at c.args.journal.disk c.args.spare c.of.result unneeded c.of.ensures keeps
