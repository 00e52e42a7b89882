use Rattle.std.proofs.Common.{length}
use Rattle.mt_journal.proofs.Kept.{fronts_kept, kept_after, zeros_written}
use Rattle.mt_journal.proofs.growing.write_zeros.Goals as goal

pub returns-clause-kept : goal.returns-clause-kept
returns-clause-kept g c = λ header entries keeps.
    kept_after c.args.at.now (g.D.Disk.seen c.args.disk.now) (g.D.Disk.seen c.write_at.new.self) (g.D.Disk.may_leave c.args.disk.now) (g.D.Disk.may_leave c.write_at.new.self) header entries (length c.args.zeros.now) keeps c.write_at.ensures.others c.write_at.ensures.crash

pub returns-clause-ahead : goal.returns-clause-ahead
returns-clause-ahead g c = λ header entries keeps.
    zeros_written c.write_at.result c.args.at.now (g.D.Disk.seen c.args.disk.now) (g.D.Disk.seen c.write_at.new.self) (g.D.Disk.may_leave c.args.disk.now) header entries c.args.zeros.now keeps c.write_at.ensures.others c.requires.zeros c.write_at.ensures.written

pub returns-clause-fronts : goal.returns-clause-fronts
returns-clause-fronts g c = fronts_kept c.args.at.now.room (length c.args.zeros.now) (g.D.Disk.may_leave c.args.disk.now) (g.D.Disk.may_leave c.write_at.new.self) c.write_at.ensures.crash
