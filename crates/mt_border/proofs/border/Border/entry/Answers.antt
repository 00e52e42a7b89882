use Rattle.mt_border.specs.Table.{live_slots}
use Rattle.mt_border.proofs.BorderLemmas.{entry_there}
use Rattle.mt_border.proofs.border.Border.entry.Goals as goal

pub returns-clause-whole : goal.returns-clause-whole
returns-clause-whole c = entry_there (live_slots c.self.inside.table) c.args.place _ c.self.invariant.entries (rw (← c.self.view_is) at c.requires) c.live.ensures
