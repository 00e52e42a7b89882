use Rattle.std.proofs.Common.{◌≡◌, ◌+◌, ◌∙◌, None, arith}
use Rattle.mt_arena.specs.Node.{occupied}
use Rattle.mt_arena.proofs.ArenaLemmas.{sound-first_freed}
use Rattle.mt_arena.proofs.arena.Arena.free_first_retired.Goals as goal

pub invariant_of-self : goal.invariant_of-self
invariant_of-self c =
    let same = c.give_room_back.ensures.nodes in
    let less = c.remove.ensures.len in
    let count = c.give_room_back.ensures.count in
    rw c.in-Some.ensures.capacity
    (sound-first_freed c.self.inside.nodes.slots c.give_room_back.new.nodes.slots c.self.inside.retired.items c.in-Some.first c.pop_front.new.self.items _ c.in-Some.ensures.items
    (record { changed = same c.in-Some.first.node.0 ∙ c.remove.ensures.updates.changed; others = λ other apart. same other ∙ c.remove.ensures.updates.others other apart })
    (omega (arith, less, count)) c.self.invariant)

pub returns-in-Some-clause-frees : goal.returns-in-Some-clause-frees
returns-in-Some-clause-frees c =
    let same = c.give_room_back.ensures.nodes in
    let less = c.remove.ensures.len in
    let count = c.give_room_back.ensures.count in
    rw (← c.self.view_is) (record {
      first = c.in-Some.first;
      retired = c.in-Some.ensures.items;
      updates = record { changed = same c.in-Some.first.node.0 ∙ c.remove.ensures.updates.changed; others = λ other apart. same other ∙ c.remove.ensures.updates.others other apart };
      fewer = omega (arith, less, count);
    })

pub returns-in-Some-clause-sound : goal.returns-in-Some-clause-sound
returns-in-Some-clause-sound c = (invariant_of-self c).arena
