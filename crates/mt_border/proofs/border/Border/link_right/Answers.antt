use Rattle.mt_border.proofs.SeenLemmas.{sound_half_linked}
use Rattle.mt_border.proofs.border.Border.link_right.Goals as goal

pub invariant_of-self : goal.invariant_of-self
invariant_of-self c = rw c.keep_first.ensures (sound_half_linked c.self.inside.layer c.self.inside.low c.self.inside.right c.self.inside.version c.self.inside.table c.self.inside.unwritten c.args.keep c.order-shown.result c.args.right (rw (← c.self.view_is) at c.requires.locked) (rw (← c.self.view_is) at c.requires.splitting) (rw (← c.self.view_is) at c.requires.within) (rw (← c.self.view_is) at c.requires.above_low) (rw (← c.self.view_is) at c.requires.above_kept) c.order-shown.ensures c.self.invariant).1

pub returns-clause-value : goal.returns-clause-value
returns-clause-value c = rw (c.keep_first.ensures, ← c.self.view_is) (sound_half_linked c.self.inside.layer c.self.inside.low c.self.inside.right c.self.inside.version c.self.inside.table c.self.inside.unwritten c.args.keep c.order-shown.result c.args.right (rw (← c.self.view_is) at c.requires.locked) (rw (← c.self.view_is) at c.requires.splitting) (rw (← c.self.view_is) at c.requires.within) (rw (← c.self.view_is) at c.requires.above_low) (rw (← c.self.view_is) at c.requires.above_kept) c.order-shown.ensures c.self.invariant).0

pub returns-clause-sound : goal.returns-clause-sound
returns-clause-sound c = invariant_of-self c
