use Rattle.std.proofs.Common.{[], ◌∷◌}
use Rattle.mt_frame.specs.declared.entry.Entry.{Entry}
use Rattle.mt_frame.specs.declared.entry.Entry.TheVariants.{Rows}
use Rattle.mt_journal.proofs.Kept.{all_survive, survive_more}
use Rattle.mt_journal.proofs.journal.Journal.append_rows.Goals as goal

pub returns-then-not-is_usable-clause-crash : goal.returns-then-not-is_usable-clause-crash
returns-then-not-is_usable-clause-crash g c = λ header entries keeps mixing.
    let entry : Entry = Rows c.args.part in
    survive_more header entries (entry ∷ []) c.args.self.now.at.durable (g.D.Disk.may_leave c.args.self.now.disk)
    (all_survive c.args.self.now.at (g.D.Disk.seen c.args.self.now.disk) (g.D.Disk.may_leave c.args.self.now.disk) (g.D.Disk.may_leave c.args.self.now.disk) header entries keeps (λ left may_left. may_left))
