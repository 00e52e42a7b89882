use Rattle.mt_interior.specs.Interior.{interior_view, blank_child}
use Rattle.mt_interior.proofs.ChildrenLemmas.{set-renamed}
use Rattle.mt_interior.proofs.InteriorLemmas.{interior-renamed}
use Rattle.mt_interior.proofs.interior.Interior.bypass.Goals as goal

pub invariant_of-self : goal.invariant_of-self
invariant_of-self c =
    rw (c.rename.ensures, set-renamed c.args.place c.args.level c.args.node c.self.inside.children.items blank_child (rw (← c.self.view_is) at c.requires.within))
    (interior-renamed (interior_view c.self.inside.version c.self.inside.level c.self.inside.low c.self.inside.children.items) c.args.place c.args.level c.args.node (rw (← c.self.view_is) at c.requires.lower) c.self.invariant)

pub returns-clause-value : goal.returns-clause-value
returns-clause-value c =
    rw (c.rename.ensures, set-renamed c.args.place c.args.level c.args.node c.self.inside.children.items blank_child (rw (← c.self.view_is) at c.requires.within), ← c.self.view_is)

pub returns-clause-sound : goal.returns-clause-sound
returns-clause-sound c = invariant_of-self c
