use Rattle.mt_border.proofs.SeenLemmas.{sound_forgotten}
use Rattle.mt_border.proofs.border.Border.forget_row.Goals as goal

pub invariant_of-self : goal.invariant_of-self
invariant_of-self c = rw c.forget_row.ensures (sound_forgotten c.self.inside.layer c.self.inside.low c.self.inside.right c.self.inside.version c.self.inside.table c.self.inside.unwritten (rw (← c.self.view_is) at c.requires.room) (rw (← c.self.view_is) at c.requires.written) c.self.invariant).1

pub returns-clause-value : goal.returns-clause-value
returns-clause-value c = rw (c.forget_row.ensures, ← c.self.view_is) (sound_forgotten c.self.inside.layer c.self.inside.low c.self.inside.right c.self.inside.version c.self.inside.table c.self.inside.unwritten (rw (← c.self.view_is) at c.requires.room) (rw (← c.self.view_is) at c.requires.written) c.self.invariant).0

pub returns-clause-sound : goal.returns-clause-sound
returns-clause-sound c = invariant_of-self c
