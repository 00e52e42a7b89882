use Rattle.std.proofs.Common.{◌<◌, length, arith}
use Rattle.mt_arena.specs.Node.{occupied}
use Rattle.mt_arena.proofs.ArenaLemmas.{retired_below, sound-retired}
use Rattle.mt_arena.proofs.arena.Arena.retire.Goals as goal

pub push_back_reserved-requires : goal.push_back_reserved-requires
push_back_reserved-requires c =
    let room = c.self.invariant.room_for_all in
    let fewer : length c.self.inside.retired.items < occupied c.self.inside.nodes.slots = retired_below c.self.inside.nodes.slots c.self.inside.retired.items c.args.number.0 c.self.invariant.arena.retired (rw (← c.self.view_is) at c.requires.named) (rw (← c.self.view_is) at c.requires.not_retired) in
    omega (arith, c.self.inside.retired.ok.0)

pub invariant_of-self : goal.invariant_of-self
invariant_of-self c =
    rw (c.push_back_reserved.ensures.items, c.push_back_reserved.ensures.capacity)
    (sound-retired c.self.inside.nodes.slots c.self.inside.retired.items c.args.number c.args.epoch _ (rw (← c.self.view_is) at c.requires.named) (rw (← c.self.view_is) at c.requires.not_retired) (rw (← c.self.view_is) at c.requires.no_earlier) c.self.invariant)

pub returns-clause-sound : goal.returns-clause-sound
returns-clause-sound c = (invariant_of-self c).arena
