use Rattle.std.proofs.Common.{◌≡◌, ◌+◌, ◌∙◌, ap, arith, length}
use Rattle.mt_commit.specs.Log.{LogView, newest}
use Rattle.mt_commit.specs.LogFields.{log_of}
use Rattle.mt_commit.proofs.HolderLemmas.{length-with}
use Rattle.mt_commit.proofs.LogLemmas.{pinned_log}
use Rattle.mt_commit.proofs.log.Log.pin.Goals as goal

pub invariant_of-self-2 : goal.invariant_of-self-2
invariant_of-self-2 c =
    let same : newest (log_of c.self.inside) ≡ newest c.args.self.now = ap newest c.self.view_is in
    let after : c.self.inside.held_after ≡ c.args.self.now.held_after = ap (λ (log : LogView). log.held_after) c.self.view_is in
    let more : length c.add.new.self ≡ length c.self.inside.holders + 1 = ap length c.in_ok-add.ensures.ok ∙ length-with c.args.number c.self.inside.holders in
    let counted = c.self.invariant.counted in
    record {
      sound = pinned_log (log_of c.self.inside) c.args.number c.add.new.self c.self.invariant.sound (omega arith) (omega arith) c.in_ok-add.ensures.ok;
      room = c.self.invariant.room;
      counted = omega arith;
      few = c.self.invariant.few;
    }

pub returns-clause-sound : goal.returns-clause-sound
returns-clause-sound c =
    let same : newest (log_of c.self.inside) ≡ newest c.args.self.now = ap newest c.self.view_is in
    let after : c.self.inside.held_after ≡ c.args.self.now.held_after = ap (λ (log : LogView). log.held_after) c.self.view_is in
    pinned_log (log_of c.self.inside) c.args.number c.add.new.self c.self.invariant.sound (omega arith) (omega arith) c.in_ok-add.ensures.ok
