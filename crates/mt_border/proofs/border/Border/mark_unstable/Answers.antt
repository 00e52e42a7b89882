use Rattle.mt_border.proofs.SeenLemmas.{sound_unstable}
use Rattle.mt_border.proofs.border.Border.mark_unstable.Goals as goal

pub invariant_of-self : goal.invariant_of-self
invariant_of-self c = sound_unstable c.self.inside.layer c.self.inside.low c.self.inside.right c.self.inside.version c.self.inside.table c.self.inside.unwritten c.args.place c.number.result (rw (← c.self.view_is) at c.requires.within) (rw (← c.self.view_is) at c.requires.long) (rw (← c.self.view_is) at c.requires.locked) c.number.ensures c.self.invariant

pub returns-clause-sound : goal.returns-clause-sound
returns-clause-sound c = invariant_of-self c
