-- A READ OF ONE MOMENT: many keys, a range against the order of the keys, or a count, while no put, remove or tidy is open.
-- It is no event.
use Rattle.std.specs.Prelude.{ℕ, ◌≡◌, ◌≤◌, ◌<◌, ◌⊎◌, ◌↔◌, List, Option, Some, None, Result, Ok, Err, IfOk, IfSome, IsSome}
use Rattle.mt_types.specs.declared.refusal.Refusal.{Refusal}
use Rattle.mt_types.specs.declared.refusal.Refusal.TheVariants.{NoMemory, WrongPass}
use Rattle.mt_types.specs.declared.row.Row.{Row}
use Rattle.mt_promise.specs.History.{History, moment, rows}
use Rattle.mt_index.specs.Alone.{IsQuiet}
use Rattle.mt_index.specs.Stands.{MachineView, Stands}
use Rattle.mt_reads.specs.Quiet.{IsQuietAnswer, quiet_fault}
use Rattle.mt_reads.specs.declared.quiet.QuietRead.{QuietRead}
use Rattle.mt_reads.specs.declared.quiet.QuietAnswer.{QuietAnswer}
use Rattle.mt_reads.specs.declared.quiet.QuietAnswer.TheVariants.{Rows, Pairs, Count}
use Rattle.mt_shared.specs.declared.answers.At.{At}
use Rattle.mt_shared.specs.Inner.{InnerView, IsInner, IsRefusedBy}
use Rattle.mt_shared.specs.Passes.{PassView}
use Rattle.mt_shared.specs.Reads.{IsNow}

-- at each history at which the machine is, the answer is that of a map of the rows
abbrev pub IsQuietNow : MachineView → QuietRead → QuietAnswer → Type 0
IsQuietNow m read answer = (h : History) → Stands m h → IsQuietAnswer (rows m.columns (moment h)) read answer

-- What such a read returns: the number of commits and the answer; or the refusal that is due, or out of memory. It returns
-- `None` exactly if a put, remove or tidy is open.
pub record QuietReadsNow (s : InnerView) (read : QuietRead) (result : Option (Result (ℕ × QuietAnswer) Refusal)) : Type 0 where
  pub may : IsSome result ↔ IsQuiet s.machine
  pub answer : IfSome result (λ found. IfOk found (λ now. IsNow s.machine now.0 × IsQuietNow s.machine read now.1))
  pub fault : IfSome result (IsRefusedBy (quiet_fault s.machine.columns read))

-- the same of something that the lock keeps
pub record QuietReadsSomewhere (read : QuietRead) (result : Option (Result (ℕ × QuietAnswer) Refusal)) : Type 0 where
  pub kept : InnerView
  pub keeps : IsInner kept
  pub reads : QuietReadsNow kept read result

-- what such a read may return of what is shared, S
abbrev pub QuietLaw : Type 0 → Type 1
QuietLaw S = S → QuietRead → Option (Result (ℕ × QuietAnswer) Refusal) → Type 0

-- ---- of a pass

abbrev pub Answered : Type 0
Answered = Option (Result (At QuietAnswer) Refusal)

-- what a pass receives, and what it has seen then: an answer from before what it had seen is of another index
abbrev pub IsToldQuiet : PassView → Result (ℕ × QuietAnswer) Refusal → Result (At QuietAnswer) Refusal → PassView → Type 0
IsToldQuiet p (Ok now) result q =
    ((now.0 < p.seen) × (result ≡ Err WrongPass) × (q ≡ p))
    ⊎ ((p.seen ≤ now.0) × (result ≡ Ok (record { value = now.1; from = now.0; to = now.0 }))
    × (q ≡ record p { seen = now.0 }))
IsToldQuiet p (Err refusal) result q = (result ≡ Err refusal) × (q ≡ p)

-- A READ BY A PASS: the pass receives what such a read returned, if anything. Only what the pass has seen has changed.
abbrev pub IsQuietRead : {S : Type 0} → QuietLaw S → S → PassView → QuietRead → Answered → PassView → Type 0
IsQuietRead glances s p read (Some ended) q =
    (found : Result (ℕ × QuietAnswer) Refusal) × glances s read (Some found) × IsToldQuiet p found ended q
IsQuietRead glances s p read None q = glances s read None × (q ≡ p)

-- ---- of a client's method

abbrev pub found_of : QuietAnswer → Option (List (Option Row))
found_of (Rows found) = Some found
found_of _ = None

abbrev pub pairs_of : QuietAnswer → Option (List (List ℕ × Row))
pairs_of (Pairs pairs) = Some pairs
pairs_of _ = None

abbrev pub count_of : QuietAnswer → Option ℕ
count_of (Count count) = Some count
count_of _ = None

-- the answer, with the number of commits; none, if it couldn't be read
abbrev pub valued_now : {T : Type 0} → ℕ → ℕ → Option T → Result (Option (At T)) Refusal
valued_now from to (Some value) = Ok (Some (record { value = value; from = from; to = to }))
valued_now from to None = Err WrongPass

abbrev pub now_or_none : {T : Type 0} → (QuietAnswer → Option T) → Answered → Result (Option (At T)) Refusal
now_or_none of (Some (Ok at)) = valued_now at.from at.to (of at.value)
now_or_none of (Some (Err refusal)) = Err refusal
now_or_none of None = Ok None

-- THE RESULT OF SUCH A METHOD: that of a read of its pass; or memory for a copy of the bytes was refused, and nothing has
-- happened
abbrev pub ReadsQuietly : {S T : Type 0} → QuietLaw S → S → PassView → QuietRead → (QuietAnswer → Option T)
    → Result (Option (At T)) Refusal → PassView → Type 0
ReadsQuietly glances s p read of result q =
    ((ended : Answered) × (result ≡ now_or_none of ended) × IsQuietRead glances s p read ended q)
    ⊎ ((result ≡ Err NoMemory) × (q ≡ p))
