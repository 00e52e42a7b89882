use Rattle.mt_journal.proofs.Kept.{all_survive}
use Rattle.mt_journal.proofs.journal.Journal.sync.Goals as goal

pub returns-then-not-is_usable-clause-crash : goal.returns-then-not-is_usable-clause-crash
returns-then-not-is_usable-clause-crash g c = λ header entries keeps.
    all_survive c.args.self.now.at (g.D.Disk.seen c.args.self.now.disk) (g.D.Disk.may_leave c.args.self.now.disk) (g.D.Disk.may_leave c.args.self.now.disk) header entries keeps (λ left may_left. may_left)
