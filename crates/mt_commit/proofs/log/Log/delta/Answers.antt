use Rattle.std.proofs.Common.{◌≡◌, ap, arith}
use Rattle.std.proofs.lemmas.Option.{slice_get_read}
use Rattle.mt_commit.specs.Log.{LogView, newest}
use Rattle.std.specs.VecDeque.{deque_len}
use Rattle.mt_commit.specs.LogFields.{log_of}
use Rattle.mt_commit.proofs.LogLemmas.{delta_is}
use Rattle.mt_commit.proofs.log.Log.delta.Goals as goal

pub returns-clause-numbered : goal.returns-clause-numbered
returns-clause-numbered c =
    let same : newest (log_of c.self.inside) ≡ newest c.args.self.now = ap newest c.self.view_is in
    let after : c.self.inside.held_after ≡ c.args.self.now.held_after = ap (λ (log : LogView). log.held_after) c.self.view_is in
    delta_is (log_of c.self.inside) c.args.number c.index.result.now c.self.invariant.sound (omega arith)
    (slice_get_read c.self.inside.deltas.items (deque_len c.self.inside.deltas) _ c.index.result.now c.self.inside.deltas.ok.0 (omega arith) c.index.ensures)
