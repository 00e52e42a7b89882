use Rattle.std.proofs.Common.{◌∙◌}
use Rattle.mt_border.specs.Table.{live_slots}
use Rattle.mt_border.proofs.SeenLemmas.{sound_value, row_seen}
use Rattle.mt_border.proofs.border.Border.set_value.Goals as goal

pub invariant_of-self : goal.invariant_of-self
invariant_of-self c = rw c.set_row.ensures.value (sound_value c.self.inside.layer c.self.inside.low c.self.inside.right c.self.inside.version c.self.inside.table c.self.inside.unwritten c.args.place c.args.row (rw (← c.self.view_is) at c.requires.within) (rw (← c.self.view_is) at c.requires.written) c.self.invariant).1

pub returns-clause-value : goal.returns-clause-value
returns-clause-value c = rw (c.set_row.ensures.value, ← c.self.view_is) (sound_value c.self.inside.layer c.self.inside.low c.self.inside.right c.self.inside.version c.self.inside.table c.self.inside.unwritten c.args.place c.args.row (rw (← c.self.view_is) at c.requires.within) (rw (← c.self.view_is) at c.requires.written) c.self.invariant).0

pub returns-clause-sound : goal.returns-clause-sound
returns-clause-sound c = invariant_of-self c

pub set_row-requires-clause-row : goal.set_row-requires-clause-row
set_row-requires-clause-row c =
    let row = rw (← c.self.view_is) at c.requires.row in
    rw (← row_seen c.args.place (live_slots c.self.inside.table)) row

pub returns-clause-replaced : goal.returns-clause-replaced
returns-clause-replaced c = rw (← c.self.view_is) (row_seen c.args.place (live_slots c.self.inside.table) ∙ c.set_row.ensures.replaced)
