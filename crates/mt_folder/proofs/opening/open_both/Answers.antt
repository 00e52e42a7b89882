use Rattle.std.proofs.Common.{Some}
use Rattle.mt_folder.proofs.SourceLemmas.{by_source}
use Rattle.mt_folder.specs.Kept.{KeepsSource}
use Rattle.mt_folder.specs.Spares.{AreClean}
use Rattle.mt_folder.specs.declared.source.Source.TheVariants.{Newer, Both}
use Rattle.mt_folder.proofs.opening.open_both.Goals as goal

pub returns-in-Newer-clause-logs : goal.returns-in-Newer-clause-logs
returns-in-Newer-clause-logs g c = λ mixes.
    by_source c.whole_log.result (AreClean g.D.Disk.is_clean) (KeepsSource g.D.Disk.seen g.D.Disk.may_leave c.args.newer.log c.args.older.log) (Some Newer)
    c.whole_log.ensures.source (c.whole_log.ensures.logs c.requires.newer c.requires.newer_all)

pub returns-in-Both-clause-logs : goal.returns-in-Both-clause-logs
returns-in-Both-clause-logs g c = λ mixes.
    by_source c.later_log.result (AreClean g.D.Disk.is_clean) (KeepsSource g.D.Disk.seen g.D.Disk.may_leave c.args.newer.log c.args.older.log) (Some Both)
    c.later_log.ensures.source (c.later_log.ensures.logs c.requires.newer c.requires.older_all mixes)
