-- What an audit says of its lines.
use Rattle.std.specs.Prelude.{◌≡◌, ◌⊎◌, ℕ, ◌-◌, List, [], ◌++◌, length, map, take, All, codes, decimal, Option, Some, IfSome}
use Rattle.std.specs.Io.KnownBytes.{Appends}
use Rattle.mt_types.specs.declared.row.Delta.{Delta}
use Rattle.mt_check.specs.Receipts.{IsSoundLog, IsSound, NoneClaimsAgain}
use Rattle.mt_check.specs.Faults.{rule_number, DeltaBreaks, IsFirstFault, IsFirstReceiptFault}
use Rattle.mt_check.specs.declared.receipt.Receipt.{Receipt}
use Rattle.mt_script.specs.declared.fault.ScriptFault.{ScriptFault}
use Rattle.mt_script.specs.declared.fault.ScriptFault.TheVariants.{Read}
use Rattle.mt_script.specs.Lines.{lines_of, line_text, ReadsLines}
use Rattle.mt_audit.specs.Lines.{line_of}
use Rattle.mt_audit.specs.declared.line.Line.TheVariants.{Logged, Kept}
use Rattle.mt_audit.specs.declared.verdict.Verdict.{Verdict}
use Rattle.mt_audit.specs.declared.verdict.Verdict.TheVariants.{Sound, Faulty, Bad}

-- each of these lines reads: they are these deltas and, behind them, these receipts
abbrev pub Reads : ℕ → List (List ℕ) → List Delta → List Receipt → Type 0
Reads C lines deltas receipts =
    map (line_of C) lines ≡ map (λ delta. Some (Logged delta)) deltas ++ map (λ receipt. Some (Kept receipt)) receipts

abbrev pub CanRead : ℕ → List (List ℕ) → Type 0
CanRead C lines = (deltas : List Delta) × (receipts : List Receipt) × Reads C lines deltas receipts

-- the log is sound, and so is each receipt, and no number of a commit is claimed by two
pub record IsAllRight (C : ℕ) (deltas : List Delta) (receipts : List Receipt) : Type 0 where
  pub log : IsSoundLog deltas
  pub sound : All (IsSound C deltas) receipts
  pub once : NoneClaimsAgain receipts

-- the verdict on lines: all is right, with this many deltas and receipts; or this is the first fault; or this line,
--     counted from 1, is the first that doesn't read
abbrev pub IsVerdict : ℕ → List (List ℕ) → Verdict → Type 0
IsVerdict C lines (Sound commits calls) =
    (deltas : List Delta) × (receipts : List Receipt) × Reads C lines deltas receipts
    × IsAllRight C deltas receipts × (commits ≡ length deltas) × (calls ≡ length receipts)
IsVerdict C lines (Faulty fault) =
    (deltas : List Delta) × (receipts : List Receipt) × Reads C lines deltas receipts
    × (IsFirstFault DeltaBreaks deltas fault ⊎ IsFirstReceiptFault C deltas receipts fault)
IsVerdict C lines (Bad number) = CanRead C (take (number - 1) lines) × ¬ CanRead C (take number lines)

-- ok D R, fault INDEX RULE or bad line N
abbrev pub verdict_text : Verdict → List ℕ
verdict_text (Sound commits calls) = codes "ok " ++ decimal commits ++ codes " " ++ decimal calls
verdict_text (Faulty fault) = codes "fault " ++ decimal fault.index ++ codes " " ++ decimal (rule_number fault.rule)
verdict_text (Bad number) = codes "bad line " ++ decimal number

abbrev pub verdict_status : Verdict → ℕ
verdict_status (Sound commits calls) = 0
verdict_status (Faulty fault) = 1
verdict_status (Bad number) = 2

-- the verdict on the lines of the input, if the input is known
abbrev pub IsVerdictOn : ℕ → Option (List ℕ) → Verdict → Type 0
IsVerdictOn C input verdict =
    (lines : List (List ℕ)) × IfSome input (λ bytes. lines_of bytes ≡ lines) × IsVerdict C lines verdict

-- the line of the verdict on the input was written, and this is its status
pub record Audited (C : ℕ) (input old : Option (List ℕ)) (status : ℕ) (new : Option (List ℕ)) : Type 0 where
  pub verdict : Verdict
  pub right : IsVerdictOn C input verdict
  pub written : Appends old new (line_text (verdict_text verdict))
  pub told : status ≡ verdict_status verdict

-- after a read that failed: all bytes before the unread ones are lines that read, and the begin of one more
abbrev pub ReadsSoFar : ℕ → Option (List ℕ) → Option (List ℕ) → Type 0
ReadsSoFar C input unread = (lines : List (List ℕ)) × CanRead C lines × IfSome input (ReadsLines lines unread)

-- Nothing was written, or the first bytes of that line. The reader still has the unread bytes: after a read fault, no
-- whole line that was read is bad, and none is lost.
pub record Unfinished (C : ℕ) (fault : ScriptFault) (input unread old new : Option (List ℕ)) : Type 0 where
  pub sent : List ℕ
  pub written : Appends old new sent
  pub front : (sent ≡ [])
      ⊎ ((verdict : Verdict) × (unsent : List ℕ) × IsVerdictOn C input verdict
      × (line_text (verdict_text verdict) ≡ sent ++ unsent))
  pub none_lost : fault ≡ Read → (sent ≡ []) × ReadsSoFar C input unread
