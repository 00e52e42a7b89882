use Rattle.mt_lives.proofs.ReachLemmas.{begins, opened_columns}
use Rattle.mt_lives.proofs.life.begin_life.Goals as goal

pub returns-clause-begins : goal.returns-clause-begins
returns-clause-begins g c = λ changes n first mixes.
    begins g.D.Disk.seen g.D.Disk.may_leave g.D.Disk.is_clean c.args.options.columns changes n (g.D.Disk.seen c.args.even) (g.D.Disk.seen c.args.odd) c.open.result first
    (opened_columns _ c.args.options.columns c.open.result c.open.ensures.loaded) c.open.ensures.begins (λ later k has. c.open.ensures.again later k has mixes) c.open.ensures.durable
