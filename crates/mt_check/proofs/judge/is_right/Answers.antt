use Rattle.std.proofs.Common.{sym, subst}
use Rattle.std.specs.Prelude.{IfOk, IsTrue, ◌↔◌}
use Rattle.mt_check.specs.declared.receipt.Receipt.{Receipt}
use Rattle.mt_check.specs.Receipts.{IsRight}
use Rattle.mt_check.proofs.judge.is_right.Goals as goal

pub returns-in-Call-clause-right : goal.returns-in-Call-clause-right
returns-in-Call-clause-right c =
    subst (λ (r : Receipt). IfOk c.is_right_answer.result (λ yes_. IsTrue yes_ ↔ IsRight c.args.log.now.columns c.args.log.now.deltas.now r)) (sym c.in-Call.is) c.is_right_answer.ensures
