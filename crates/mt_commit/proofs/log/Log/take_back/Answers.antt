use Rattle.std.proofs.Common.{◌≡◌, ◌<◌, ◌+◌, ◌++◌, ◌∷◌, ◌∙◌, [], All, length, length-append, ap, sym, subst, arith}
use Rattle.mt_commit.specs.Log.{LogView, newest}
use Rattle.mt_commit.specs.LogFields.{log_of}
use Rattle.mt_commit.proofs.LogLemmas.{taken_log}
use Rattle.mt_commit.proofs.log.Log.take_back.Goals as goal

pub invariant_of-self : goal.invariant_of-self
invariant_of-self c =
    let log : LogView = log_of c.self.inside in
    let is : c.self.inside.deltas.items ≡ c.pop_back.new.self.items ++ c.in-Some.delta ∷ [] = c.in-Some.ensures.items in
    let long : length c.self.inside.deltas.items ≡ length c.pop_back.new.self.items + 1 = ap length is ∙ length-append c.pop_back.new.self.items (c.in-Some.delta ∷ []) in
    let was = c.self.inside.deltas.ok.0 in
    let now = c.pop_back.new.self.ok.0 in
    let room = c.self.invariant.room in
    let same = c.in-Some.ensures.capacity in
    let many : newest log ≡ newest c.args.self.now = ap newest c.self.view_is in
    let few = c.requires.few in
    record {
      sound = taken_log log c.pop_back.new.self.items c.in-Some.delta c.args.rows c.self.invariant.sound
          (subst (λ (l : LogView). l.base ≡ l.held_after) (sym c.self.view_is) c.requires.keeps)
          (subst (λ (l : LogView). All (λ holder. holder < newest l) l.holders) (sym c.self.view_is) c.requires.unheld) is;
      room = omega (arith, was, now, room, same, long);
      counted = c.self.invariant.counted;
      few = omega (arith, was, now, long, many, few);
    }

pub returns-clause-sound : goal.returns-clause-sound
returns-clause-sound c =
    taken_log (log_of c.self.inside) c.pop_back.new.self.items c.in-Some.delta c.args.rows c.self.invariant.sound
    (subst (λ (l : LogView). l.base ≡ l.held_after) (sym c.self.view_is) c.requires.keeps)
    (subst (λ (l : LogView). All (λ holder. holder < newest l) l.holders) (sym c.self.view_is) c.requires.unheld) c.in-Some.ensures.items
