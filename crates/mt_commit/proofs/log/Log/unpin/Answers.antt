use Rattle.std.proofs.Common.{◌≡◌, ◌+◌, ℕ, List, ap, sym, subst, arith, length}
use Rattle.std.specs.Prelude.{Contains}
use Rattle.mt_commit.specs.Holders.{without_holder}
use Rattle.mt_commit.specs.Log.{LogView}
use Rattle.mt_commit.specs.LogFields.{log_of}
use Rattle.mt_commit.proofs.HolderLemmas.{length-without}
use Rattle.mt_commit.proofs.LogLemmas.{unpinned_log}
use Rattle.mt_commit.proofs.log.Log.unpin.Goals as goal

pub invariant_of-self : goal.invariant_of-self
invariant_of-self c =
    let same : c.args.self.now.holders ≡ c.self.inside.holders = sym (ap (λ (log : LogView). log.holders) c.self.view_is) in
    let held : Contains c.self.inside.holders c.args.number = subst (λ (holders : List ℕ). Contains holders c.args.number) same c.requires in
    let left : length (without_holder c.args.number c.self.inside.holders) + 1 ≡ length c.self.inside.holders = length-without c.args.number c.self.inside.holders held in
    let long : length c.remove.new.self ≡ length (without_holder c.args.number c.self.inside.holders) = ap length c.remove.ensures in
    let counted = c.self.invariant.counted in
    record {
      sound = unpinned_log (log_of c.self.inside) c.args.number c.remove.new.self c.self.invariant.sound c.remove.ensures;
      room = c.self.invariant.room;
      counted = omega arith;
      few = c.self.invariant.few;
    }

pub returns-clause-sound : goal.returns-clause-sound
returns-clause-sound c = unpinned_log (log_of c.self.inside) c.args.number c.remove.new.self c.self.invariant.sound c.remove.ensures
