use Rattle.mt_border.proofs.SeenLemmas.{sound_entries}
use Rattle.mt_border.proofs.border.Border.fill.Goals as goal

pub invariant_of-self : goal.invariant_of-self
invariant_of-self c = rw (c.extend.ensures, c.into_vec.ensures) (sound_entries c.self.inside.layer c.self.inside.low c.self.inside.right c.self.inside.version c.self.inside.table c.self.inside.unwritten c.args.entries c.args.right (rw (← c.self.view_is) at c.requires.sound)).1

pub returns-clause-value : goal.returns-clause-value
returns-clause-value c = rw (c.extend.ensures, c.into_vec.ensures, ← c.self.view_is) (sound_entries c.self.inside.layer c.self.inside.low c.self.inside.right c.self.inside.version c.self.inside.table c.self.inside.unwritten c.args.entries c.args.right (rw (← c.self.view_is) at c.requires.sound)).0

pub returns-clause-sound : goal.returns-clause-sound
returns-clause-sound c = invariant_of-self c
