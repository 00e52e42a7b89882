use Rattle.std.proofs.Common.{sym, ◌∙◌}
use Rattle.mt_border.proofs.SeenLemmas.{sound_filled}
use Rattle.mt_border.proofs.border.Border.write_value.Goals as goal

pub invariant_of-self : goal.invariant_of-self
invariant_of-self c = rw (c.fill.ensures, c.replace.ensures.after) (sound_filled c.self.inside.layer c.self.inside.low c.self.inside.right c.self.inside.version c.self.inside.table c.self.inside.unwritten c.in-Value.key c.args.row c.with_row.result (sym c.replace.ensures.value ∙ c.in-Value.is) c.with_row.ensures.value c.with_row.ensures.whole c.self.invariant).1

pub returns-clause-value : goal.returns-clause-value
returns-clause-value c = rw (c.fill.ensures, c.replace.ensures.after, ← c.self.view_is) (sound_filled c.self.inside.layer c.self.inside.low c.self.inside.right c.self.inside.version c.self.inside.table c.self.inside.unwritten c.in-Value.key c.args.row c.with_row.result (sym c.replace.ensures.value ∙ c.in-Value.is) c.with_row.ensures.value c.with_row.ensures.whole c.self.invariant).0

pub returns-clause-sound : goal.returns-clause-sound
returns-clause-sound c = invariant_of-self c
