use Rattle.mt_journal.proofs.Kept.{all_survive}
use Rattle.mt_journal.proofs.journal.Journal.make_room.Goals as goal

pub returns-then-has_room-clause-crash : goal.returns-then-has_room-clause-crash
returns-then-has_room-clause-crash g c = λ header entries keeps.
    all_survive c.args.self.now.at (g.D.Disk.seen c.args.self.now.disk) (g.D.Disk.may_leave c.args.self.now.disk) (g.D.Disk.may_leave c.args.self.now.disk) header entries keeps (λ left may_left. may_left)

pub returns-then-self-ahead-clause-crash : goal.returns-then-self-ahead-clause-crash
returns-then-self-ahead-clause-crash g c = λ header entries keeps.
    all_survive c.args.self.now.at (g.D.Disk.seen c.args.self.now.disk) (g.D.Disk.may_leave c.args.self.now.disk) (g.D.Disk.may_leave c.args.self.now.disk) header entries keeps (λ left may_left. may_left)

pub returns-in_err-zeros-clause-crash : goal.returns-in_err-zeros-clause-crash
returns-in_err-zeros-clause-crash g c = λ header entries keeps.
    all_survive c.args.self.now.at (g.D.Disk.seen c.args.self.now.disk) (g.D.Disk.may_leave c.args.self.now.disk) (g.D.Disk.may_leave c.args.self.now.disk) header entries keeps (λ left may_left. may_left)
