use Rattle.mt_journal.proofs.Repairs.{made}
use Rattle.mt_journal.proofs.opening.put_header.Goals as goal

pub returns-clause-kept : goal.returns-clause-kept
returns-clause-kept g c = λ rest zeros.
    made c.args.header.now c.args.frame.now (g.D.Disk.seen c.args.disk.now) (g.D.Disk.seen c.write_at.new.self) (g.D.Disk.seen c.sync.new.self) rest (g.D.Disk.may_leave c.sync.new.self) c.args.room
    c.requires.frame c.requires.has c.requires.room zeros c.write_at.ensures.others c.in_ok-write_at.ensures.written c.sync.ensures.seen c.in_ok-sync.ensures.durable
