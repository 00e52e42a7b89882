use Rattle.mt_border.proofs.SeenLemmas.{sound_shown}
use Rattle.mt_border.proofs.border.Border.show.Goals as goal

pub invariant_of-self : goal.invariant_of-self
invariant_of-self c = rw (c.insert_at.ensures, c.mark.ensures, c.stamp.ensures) (sound_shown c.self.inside.layer c.self.inside.low c.self.inside.right c.self.inside.version c.self.inside.table c.self.inside.unwritten c.args.place c.args.version (rw (← c.self.view_is) at c.requires.room) c.self.invariant.seen.table (rw (← c.self.view_is) at c.requires.sound)).1

pub returns-clause-value : goal.returns-clause-value
returns-clause-value c = rw (c.insert_at.ensures, c.mark.ensures, c.stamp.ensures, ← c.self.view_is) (sound_shown c.self.inside.layer c.self.inside.low c.self.inside.right c.self.inside.version c.self.inside.table c.self.inside.unwritten c.args.place c.args.version (rw (← c.self.view_is) at c.requires.room) c.self.invariant.seen.table (rw (← c.self.view_is) at c.requires.sound)).0

pub returns-clause-sound : goal.returns-clause-sound
returns-clause-sound c = invariant_of-self c
