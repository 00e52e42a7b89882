use Rattle.std.specs.Prelude.{OnOk}
use Rattle.std.proofs.Common.{◌∷◌, [], sym, subst}
use Rattle.mt_frame.specs.declared.entry.Record.{Record}
use Rattle.mt_replay.specs.Replay.{change_again}
use Rattle.mt_store.specs.Extending.{Adds}
use Rattle.mt_store.proofs.replaying.make_again.Goals as goal

pub returns-in-Row-clause-adds : goal.returns-in-Row-clause-adds
returns-in-Row-clause-adds c = subst (λ (r : Record). OnOk c.put_again.result (Adds c.args.index.now.machine (change_again r ∷ []) c.put_again.new.index.machine)) (sym c.in-Row.is) c.put_again.ensures.adds

pub returns-in-Removed-clause-adds : goal.returns-in-Removed-clause-adds
returns-in-Removed-clause-adds c = subst (λ (r : Record). OnOk c.remove_again.result (Adds c.args.index.now.machine (change_again r ∷ []) c.remove_again.new.index.machine)) (sym c.in-Removed.is) c.remove_again.ensures.adds
