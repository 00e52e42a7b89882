use Rattle.mt_arena.proofs.ArenaLemmas.{sound-freed}
use Rattle.mt_arena.proofs.arena.Arena.free.Goals as goal

pub invariant_of-self : goal.invariant_of-self
invariant_of-self c =
    sound-freed c.self.inside.nodes.slots c.remove.new.self.slots c.self.inside.retired.items c.args.number.0 _ (record { changed = c.remove.ensures.updates.changed; others = c.remove.ensures.updates.others }) c.remove.ensures.len (rw (← c.self.view_is) at c.requires.not_retired) c.self.invariant

pub returns-clause-sound : goal.returns-clause-sound
returns-clause-sound c = (invariant_of-self c).arena
