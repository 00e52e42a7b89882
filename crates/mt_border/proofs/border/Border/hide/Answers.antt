use Rattle.mt_border.proofs.SeenLemmas.{sound_hidden}
use Rattle.mt_border.proofs.border.Border.hide.Goals as goal

pub invariant_of-self : goal.invariant_of-self
invariant_of-self c = rw c.remove_at.ensures (sound_hidden c.self.inside.layer c.self.inside.low c.self.inside.right c.self.inside.version c.self.inside.table c.self.inside.unwritten c.args.place (rw (← c.self.view_is) at c.requires.within) (rw (← c.self.view_is) at c.requires.written) c.self.invariant).1

pub returns-clause-value : goal.returns-clause-value
returns-clause-value c = rw (c.remove_at.ensures, ← c.self.view_is) (sound_hidden c.self.inside.layer c.self.inside.low c.self.inside.right c.self.inside.version c.self.inside.table c.self.inside.unwritten c.args.place (rw (← c.self.view_is) at c.requires.within) (rw (← c.self.view_is) at c.requires.written) c.self.invariant).0

pub returns-clause-sound : goal.returns-clause-sound
returns-clause-sound c = invariant_of-self c
