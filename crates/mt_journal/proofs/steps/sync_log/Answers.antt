use Rattle.mt_journal.proofs.Kept.{sync_kept, all_left, all_survive}
use Rattle.mt_journal.proofs.steps.sync_log.Goals as goal

pub returns-clause-kept : goal.returns-clause-kept
returns-clause-kept g c = λ header entries keeps.
    sync_kept c.args.at.now (g.D.Disk.seen c.args.disk.now) (g.D.Disk.seen c.sync.new.self) (g.D.Disk.may_leave c.args.disk.now) (g.D.Disk.may_leave c.sync.new.self) header entries keeps c.sync.ensures.seen c.in_ok-sync.ensures.durable

pub returns-clause-whole : goal.returns-clause-whole
returns-clause-whole g c = λ header entries keeps.
    all_left c.args.at.now (g.D.Disk.seen c.args.disk.now) (g.D.Disk.may_leave c.args.disk.now) (g.D.Disk.may_leave c.sync.new.self) header entries keeps c.in_ok-sync.ensures.durable

pub returns-clause-crash : goal.returns-clause-crash
returns-clause-crash g c = λ header entries keeps.
    all_survive c.args.at.now (g.D.Disk.seen c.args.disk.now) (g.D.Disk.may_leave c.args.disk.now) (g.D.Disk.may_leave c.sync.new.self) header entries keeps c.sync.ensures.crash

pub returns-in_err-sync-clause-crash : goal.returns-in_err-sync-clause-crash
returns-in_err-sync-clause-crash g c = λ header entries keeps.
    all_survive c.args.at.now (g.D.Disk.seen c.args.disk.now) (g.D.Disk.may_leave c.args.disk.now) (g.D.Disk.may_leave c.sync.new.self) header entries keeps c.sync.ensures.crash
