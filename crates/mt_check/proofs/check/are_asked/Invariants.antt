use Rattle.std.proofs.Common.{ℕ, ◌<◌, get_or}
use Rattle.mt_check.specs.declared.receipt.Receipt.{Receipt}
use Rattle.mt_check.specs.Receipts.{IsAsked}
use Rattle.mt_check.proofs.check.are_asked.Given as goal

abbrev pub invariant-loop-receipt : goal.invariant-loop-receipt
invariant-loop-receipt l = (k : ℕ) (d : Receipt) → k < l.receipt-index → IsAsked l.columns (get_or l.receipts k d)
