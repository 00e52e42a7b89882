use Rattle.mt_interior.proofs.InteriorLemmas.{interior-inserted}
use Rattle.mt_interior.proofs.interior.Interior.insert.Goals as goal

pub invariant_of-self : goal.invariant_of-self
invariant_of-self c =
    rw (c.insert.ensures.items, c.child_for-place.ensures.place, ← c.self.view_is)
    (interior-inserted (record { version = c.self.inside.version; level = c.self.inside.level; low = c.self.inside.low; children = c.self.inside.children.items }) c.args.child
    (rw (← c.self.view_is) at c.requires.some) (rw (← c.self.view_is) at c.requires.room) (rw (← c.self.view_is) at c.requires.lower) (rw (← c.self.view_is) at c.requires.from_low) c.self.invariant)

pub returns-clause-sound : goal.returns-clause-sound
returns-clause-sound c = invariant_of-self c
