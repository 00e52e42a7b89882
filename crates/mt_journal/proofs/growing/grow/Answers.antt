use Rattle.std.proofs.Common.{length, arith}
use Rattle.mt_journal.proofs.Kept.{all_survive, fewer_fronts, fronts_then, grown, unless_err}
use Rattle.mt_journal.proofs.growing.grow.Goals as goal

pub returns-in-Err-clause-crash : goal.returns-in-Err-clause-crash
returns-in-Err-clause-crash g c = λ header entries keeps.
    all_survive c.args.at.now (g.D.Disk.seen c.write_zeros.new.disk) (g.D.Disk.may_leave c.write_zeros.new.disk) (g.D.Disk.may_leave c.write_zeros.new.disk) header entries (c.write_zeros.ensures.kept header entries keeps) (λ left may_left. may_left)

pub returns-in-Err-sync-clause-crash : goal.returns-in-Err-sync-clause-crash
returns-in-Err-sync-clause-crash g c = λ header entries keeps.
    all_survive c.args.at.now (g.D.Disk.seen c.write_zeros.new.disk) (g.D.Disk.may_leave c.write_zeros.new.disk) (g.D.Disk.may_leave c.sync.new.self) header entries (c.write_zeros.ensures.kept header entries keeps) c.sync.ensures.crash

pub returns-clause-crash : goal.returns-clause-crash
returns-clause-crash g c = λ header entries keeps.
    all_survive c.args.at.now (g.D.Disk.seen c.write_zeros.new.disk) (g.D.Disk.may_leave c.write_zeros.new.disk) (g.D.Disk.may_leave c.sync.new.self) header entries (c.write_zeros.ensures.kept header entries keeps) c.sync.ensures.crash

pub returns-clause-kept : goal.returns-clause-kept
returns-clause-kept g c = λ header entries keeps.
    grown c.args.at.now (g.D.Disk.seen c.write_zeros.new.disk) (g.D.Disk.seen c.sync.new.self) (g.D.Disk.may_leave c.write_zeros.new.disk) (g.D.Disk.may_leave c.sync.new.self) header entries (length c.args.zeros.now)
    (c.write_zeros.ensures.kept header entries keeps) (unless_err c.write_zeros.result (c.write_zeros.ensures.ahead header entries keeps) c.in_default.not-Err) c.sync.ensures.seen
    (unless_err c.sync.result c.sync.ensures.durable c.in_default-sync.not-Err)

pub returns-in-Err-sync-clause-fronts : goal.returns-in-Err-sync-clause-fronts
returns-in-Err-sync-clause-fronts g c =
    fronts_then c.args.at.now.room c.args.at.now.room (g.D.Disk.may_leave c.args.disk.now) (g.D.Disk.may_leave c.write_zeros.new.disk) (g.D.Disk.may_leave c.sync.new.self) (omega arith) c.write_zeros.ensures.fronts
    (fewer_fronts c.args.at.now.room (g.D.Disk.may_leave c.write_zeros.new.disk) (g.D.Disk.may_leave c.sync.new.self) c.sync.ensures.crash)

pub returns-clause-fronts : goal.returns-clause-fronts
returns-clause-fronts g c =
    fronts_then c.args.at.now.room c.args.at.now.room (g.D.Disk.may_leave c.args.disk.now) (g.D.Disk.may_leave c.write_zeros.new.disk) (g.D.Disk.may_leave c.sync.new.self) (omega arith) c.write_zeros.ensures.fronts
    (fewer_fronts c.args.at.now.room (g.D.Disk.may_leave c.write_zeros.new.disk) (g.D.Disk.may_leave c.sync.new.self) c.sync.ensures.crash)
