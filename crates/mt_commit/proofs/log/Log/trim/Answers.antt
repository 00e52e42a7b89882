use Rattle.std.proofs.Common.{◌-◌, ap, ◌∙◌, arith, length, length-drop}
use Rattle.mt_commit.specs.Log.{newest}
use Rattle.mt_commit.specs.LogFields.{log_of}
use Rattle.mt_commit.proofs.LogLemmas.{trim_rises, newest-trimmed, trimmed_log, bound_is}
use Rattle.mt_commit.proofs.log.Log.trim.Goals as goal

pub overflow_sub-bound : goal.overflow_sub-bound
overflow_sub-bound c =
    trim_rises (log_of c.self.inside) _ c.self.invariant.sound
    (bound_is _ _ _ _ _ c.self.view_is c.slowest.ensures.value c.kept_after.ensures c.min-bound.ensures)

pub invariant_of-self : goal.invariant_of-self
invariant_of-self c =
    let bound = bound_is _ _ _ _ c.min-bound.result c.self.view_is c.slowest.ensures.value c.kept_after.ensures c.min-bound.ensures in
    let fewer = ap length c.drop_front.ensures.items ∙ length-drop (c.min-bound.result - c.self.inside.held_after) c.self.inside.deltas.items in
    let room = c.self.invariant.room in
    let was = c.self.inside.deltas.ok.0 in
    let now = c.drop_front.new.deltas.ok.0 in
    let same = c.drop_front.ensures.capacity in
    record {
      sound = trimmed_log (log_of c.self.inside) _ _ c.self.invariant.sound bound c.drop_front.ensures.items;
      room = omega arith;
      counted = c.self.invariant.counted;
      few = let stays = newest-trimmed (log_of c.self.inside) _ _ c.self.invariant.sound bound c.drop_front.ensures.items in let few = c.self.invariant.few in omega (arith, stays, few);
    }

pub returns-clause-newest_stays : goal.returns-clause-newest_stays
returns-clause-newest_stays c =
    let bound = bound_is _ _ _ _ c.min-bound.result c.self.view_is c.slowest.ensures.value c.kept_after.ensures c.min-bound.ensures in
    newest-trimmed (log_of c.self.inside) _ _ c.self.invariant.sound bound c.drop_front.ensures.items ∙ ap newest c.self.view_is

pub returns-clause-sound : goal.returns-clause-sound
returns-clause-sound c =
    let bound = bound_is _ _ _ _ c.min-bound.result c.self.view_is c.slowest.ensures.value c.kept_after.ensures c.min-bound.ensures in
    trimmed_log (log_of c.self.inside) _ _ c.self.invariant.sound bound c.drop_front.ensures.items
