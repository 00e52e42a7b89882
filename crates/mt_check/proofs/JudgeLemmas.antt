-- A sound receipt that claims no number again breaks no rule.
use Rattle.std.proofs.Common.{◌≡◌, ℕ, List, length, refl, inl, inr, ◌⊎◌}
use Rattle.mt_types.specs.declared.row.Delta.{Delta}
use Rattle.mt_check.specs.declared.receipt.Receipt.{Receipt}
use Rattle.mt_check.specs.declared.fault.Rule.{Rule}
use Rattle.mt_check.specs.declared.fault.Rule.TheVariants.{Span, ClaimedOnce}
use Rattle.mt_check.specs.Receipts.{IsWithin, IsRight, IsSound, ClaimsAgain}
use Rattle.mt_check.specs.Faults.{rule_of, ReceiptBreaks}

-- what it means that another rule than that of the span or of claims is broken
other_broken : (C : ℕ) (deltas : List Delta) (earlier : List Receipt) (receipt : Receipt) (rule : Rule) → ReceiptBreaks C deltas earlier receipt rule
    → (IsWithin (length deltas) receipt) → ((rule ≡ ClaimedOnce) × ClaimsAgain earlier receipt) ⊎ ((rule ≡ rule_of receipt) × (IsRight C deltas receipt → ⊥))
other_broken C deltas earlier receipt Span broken within = absurd (broken within)
other_broken C deltas earlier receipt ClaimedOnce broken within = inl (refl, broken)
other_broken C deltas earlier receipt _ broken within = inr broken

-- a receipt that breaks no rule
pub sound_unbroken : (C : ℕ) (deltas : List Delta) (earlier : List Receipt) (receipt : Receipt) (rule : Rule) → IsSound C deltas receipt → (ClaimsAgain earlier receipt → ⊥)
    → ReceiptBreaks C deltas earlier receipt rule → ⊥
sound_unbroken C deltas earlier receipt rule sound once broken =
    elim (other_broken C deltas earlier receipt rule broken sound.0) [
      | inl again ↦ once again.1
      | inr own ↦ own.1 sound.1
    ]
