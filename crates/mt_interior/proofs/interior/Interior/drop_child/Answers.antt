use Rattle.mt_interior.specs.Interior.{interior_view}
use Rattle.mt_interior.proofs.InteriorLemmas.{interior-removed}
use Rattle.mt_interior.proofs.interior.Interior.drop_child.Goals as goal

pub invariant_of-self : goal.invariant_of-self
invariant_of-self c =
    rw c.remove.ensures.items (interior-removed (interior_view c.self.inside.version c.self.inside.level c.self.inside.low c.self.inside.children.items) c.args.place c.requires.later (rw (← c.self.view_is) at c.requires.within) c.self.invariant)

pub returns-clause-sound : goal.returns-clause-sound
returns-clause-sound c = invariant_of-self c
