use Rattle.mt_shared.proofs.ChangeLemmas.{changed_somewhere}
use Rattle.mt_shared.proofs.holding.HoldingDoorShared.change.Goals as goal

-- it has to wait, and the lock is released
pub returns-then-matches-clause-changes : goal.returns-then-matches-clause-changes
returns-then-matches-clause-changes g c =
    changed_somewhere c.args.self.now _ _ c.args.pass.now c.args.request c.args.turns c.change-changed.result _ c.change-changed.new.pass c.change-changed.ensures.kept.0 c.change-changed.ensures.changes

pub returns-else-matches-clause-changes : goal.returns-else-matches-clause-changes
returns-else-matches-clause-changes g c =
    changed_somewhere c.args.self.now _ _ c.args.pass.now c.args.request c.args.turns c.change-changed.result _ c.change-changed.new.pass c.change-changed.ensures.kept.0 c.change-changed.ensures.changes
