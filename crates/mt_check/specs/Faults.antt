-- The rules of an audit, and the first that a log or its receipts break.
use Rattle.std.specs.Prelude.{ℕ, ◌+◌, ◌-◌, ◌≡◌, ◌<◌, ◌≢◌, List, take, length, slice_get, Option, Some}
use Rattle.std.specs.FinMap.{get, empty}
use Rattle.mt_types.specs.declared.row.Row.{Row}
use Rattle.mt_types.specs.declared.row.Delta.{Delta}
use Rattle.mt_types.specs.declared.event.Request.{Request}
use Rattle.mt_types.specs.declared.event.Request.TheVariants.{Get, Put, PutIf, Remove, Range, Tidy, Build}
use Rattle.mt_check.specs.Receipts.{rows_after, FitsRow, IsSoundLog, IsWithin, IsRight, ClaimsAgain}
use Rattle.mt_check.specs.declared.receipt.Receipt.{Receipt}
use Rattle.mt_check.specs.declared.receipt.Receipt.TheVariants.{Call, Page}
use Rattle.mt_check.specs.declared.fault.Rule.{Rule}
use Rattle.mt_check.specs.declared.fault.Rule.TheVariants.{Memory, DeltaNumber, DeltaRows, Span, GetAnswer, WriteAnswer, ClaimedOnce, RangeAnswer, ViewPage}
use Rattle.mt_check.specs.declared.fault.Fault.{Fault}

abbrev pub rule_number : Rule → ℕ
rule_number Memory = 0
rule_number DeltaNumber = 1
rule_number DeltaRows = 2
rule_number Span = 3
rule_number GetAnswer = 4
rule_number WriteAnswer = 5
rule_number ClaimedOnce = 6
rule_number RangeAnswer = 7
rule_number ViewPage = 8

-- a delta breaks a rule at its place, where its key has this row or none: its number isn't its place, or it doesn't fit
abbrev pub BreaksThere : ℕ → Option Row → Delta → Rule → Type 0
BreaksThere place there delta DeltaNumber = delta.number ≢ place
BreaksThere place there delta DeltaRows = ¬ FitsRow there delta
BreaksThere place there delta _ = ⊥

-- and after the deltas before it
abbrev pub DeltaBreaks : List Delta → Delta → Rule → Type 0
DeltaBreaks earlier delta rule = BreaksThere (length earlier + 1) (get (rows_after earlier empty) delta.key) delta rule

-- the rule by which the answer to a request is judged
abbrev pub rule_of_request : Request → Rule
rule_of_request (Get key asked) = GetAnswer
rule_of_request (Put key sets) = WriteAnswer
rule_of_request (PutIf key sets version) = WriteAnswer
rule_of_request (Remove key) = WriteAnswer
rule_of_request (Range start limit asked) = RangeAnswer
rule_of_request (Tidy key) = Memory
rule_of_request (Build spec) = Memory

abbrev pub rule_of : Receipt → Rule
rule_of (Call request answer from to) = rule_of_request request
rule_of (Page spec floor start limit page from to) = ViewPage

-- a receipt breaks a rule, after those before it: its numbers aren't within the log; it claims what was claimed; or its
--     answer isn't right, by the rule of its request
abbrev pub ReceiptBreaks : ℕ → List Delta → List Receipt → Receipt → Rule → Type 0
ReceiptBreaks C deltas earlier receipt Span = ¬ IsWithin (length deltas) receipt
ReceiptBreaks C deltas earlier receipt ClaimedOnce = ClaimsAgain earlier receipt
ReceiptBreaks C deltas earlier receipt rule = (rule ≡ rule_of receipt) × ¬ IsRight C deltas receipt

-- it is the smallest rule that is broken
abbrev pub IsSmallest : (Rule → Type 0) → Rule → Type 0
IsSmallest Breaks rule = Breaks rule × ((other : Rule) → rule_number other < rule_number rule → ¬ Breaks other)

-- none of the first n lines breaks a rule
abbrev pub AreClean : {X : Type 0} → (List X → X → Rule → Type 0) → List X → ℕ → Type 0
AreClean {X} Breaks lines count =
    (i : ℕ) (line : X) (rule : Rule) → i < count → slice_get lines i ≡ Some line → ¬ Breaks (take i lines) line rule

-- The first line that breaks a rule, counted from 1, and the smallest rule that it breaks.
pub record IsFirstFault {X : Type 0} (Breaks : List X → X → Rule → Type 0) (lines : List X)
    (fault : Fault) : Type 0 where
  pub line : X
  pub there : 0 < fault.index
  pub at : slice_get lines (fault.index - 1) ≡ Some line
  pub smallest : IsSmallest (Breaks (take (fault.index - 1) lines) line) fault.rule
  pub first : AreClean Breaks lines (fault.index - 1)

-- there was no memory for the audit
abbrev pub IsWantOfMemory : Fault → Type 0
IsWantOfMemory fault = fault ≡ record { index = 0; rule = Memory }

-- the log is sound, and this is the first fault of the receipts
abbrev pub IsFirstReceiptFault : ℕ → List Delta → List Receipt → Fault → Type 0
IsFirstReceiptFault C deltas receipts fault =
    IsSoundLog deltas × IsFirstFault (ReceiptBreaks C deltas) receipts fault
