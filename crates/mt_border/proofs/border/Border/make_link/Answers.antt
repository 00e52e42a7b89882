use Rattle.mt_border.specs.Table.{live_slots}
use Rattle.std.proofs.Common.{IsSome, Option, List, ℕ, subst}
use Rattle.mt_border.proofs.BorderLemmas.{suffix_seen}
use Rattle.mt_border.proofs.SeenLemmas.{sound_link}
use Rattle.mt_border.proofs.border.Border.make_link.Goals as goal

pub set_link-suffix-requires-clause-long : goal.set_link-suffix-requires-clause-long
set_link-suffix-requires-clause-long c = subst (λ (o : Option (List ℕ)). IsSome o) (suffix_seen c.args.place (live_slots c.self.inside.table)) (rw (← c.self.view_is) at c.requires.long)

pub invariant_of-self : goal.invariant_of-self
invariant_of-self c = rw c.set_link-suffix.ensures.value (sound_link c.self.inside.layer c.self.inside.low c.self.inside.right c.self.inside.version c.self.inside.table c.self.inside.unwritten c.args.place c.number-number.result c.args.head c.set_link-suffix.result (rw (← c.self.view_is) at c.requires.within) (rw (← c.self.view_is) at c.requires.long) (rw (← c.self.view_is) at c.requires.unstable) c.number-number.ensures c.set_link-suffix.ensures.replaced c.self.invariant).1

pub returns-clause-value : goal.returns-clause-value
returns-clause-value c = rw (c.set_link-suffix.ensures.value, ← c.self.view_is) (sound_link c.self.inside.layer c.self.inside.low c.self.inside.right c.self.inside.version c.self.inside.table c.self.inside.unwritten c.args.place c.number-number.result c.args.head c.set_link-suffix.result (rw (← c.self.view_is) at c.requires.within) (rw (← c.self.view_is) at c.requires.long) (rw (← c.self.view_is) at c.requires.unstable) c.number-number.ensures c.set_link-suffix.ensures.replaced c.self.invariant).0

pub returns-clause-sound : goal.returns-clause-sound
returns-clause-sound c = invariant_of-self c
