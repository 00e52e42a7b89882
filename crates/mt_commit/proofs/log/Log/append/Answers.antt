use Rattle.std.proofs.Common.{◌≡◌, ap, arith}
use Rattle.mt_commit.specs.Log.{LogView, newest}
use Rattle.mt_commit.specs.LogFields.{log_of}
use Rattle.mt_commit.proofs.LogLemmas.{appended_log}
use Rattle.mt_commit.proofs.log.Log.append.Goals as goal

pub invariant_of-self : goal.invariant_of-self
invariant_of-self c =
    let same : newest (log_of c.self.inside) ≡ newest c.args.self.now = ap newest c.self.view_is in
    let reserved : c.self.inside.reserved ≡ c.args.self.now.reserved = ap (λ (log : LogView). log.reserved) c.self.view_is in
    record {
      sound = appended_log (log_of c.self.inside) c.args.delta c.push_back_reserved.new.self.items _ c.self.invariant.sound (omega arith) (omega arith) c.push_back_reserved.ensures.items;
      room = omega arith;
      counted = c.self.invariant.counted;
      few = omega arith;
    }

pub returns-clause-sound : goal.returns-clause-sound
returns-clause-sound c =
    let same : newest (log_of c.self.inside) ≡ newest c.args.self.now = ap newest c.self.view_is in
    let reserved : c.self.inside.reserved ≡ c.args.self.now.reserved = ap (λ (log : LogView). log.reserved) c.self.view_is in
    appended_log (log_of c.self.inside) c.args.delta c.push_back_reserved.new.self.items _ c.self.invariant.sound (omega arith) (omega arith) c.push_back_reserved.ensures.items
