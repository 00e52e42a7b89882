-- A READ AT ONCE: a get or a range that is answered from the rows of one moment. It is no event.
use Rattle.std.specs.Prelude.{ℕ, true, ◌≡◌, ◌≤◌, ◌<◌, ◌⊎◌, ◌↔◌, [], length, Option, Some, None, Result, Ok, Err, IfOk, IfSome, IsSome}
use Rattle.mt_types.specs.Limits.{request_fault}
use Rattle.mt_types.specs.declared.numbers.PassNo.{PassNo}
use Rattle.mt_types.specs.declared.refusal.Refusal.{Refusal}
use Rattle.mt_types.specs.declared.refusal.Refusal.TheVariants.{WrongPass}
use Rattle.mt_types.specs.declared.event.Answer.{Answer}
use Rattle.mt_types.specs.declared.event.Answer.TheVariants.{Absent, Found, Rows}
use Rattle.mt_types.specs.declared.event.Request.{Request}
use Rattle.mt_types.specs.declared.event.Request.TheVariants.{Get, Range}
use Rattle.mt_types.specs.declared.event.Reply.{Reply}
use Rattle.mt_promise.specs.History.{History, moment, rows}
use Rattle.mt_promise.specs.Alone.{IsPlain}
use Rattle.mt_index.specs.Alone.{IsQuiet}
use Rattle.mt_index.specs.Stands.{MachineView, Stands}
use Rattle.mt_shared.specs.declared.trace.Trace.TheVariants.{Off}
use Rattle.mt_shared.specs.Passes.{PassView}
use Rattle.mt_shared.specs.Drives.{EventLaw, IsDrive}
use Rattle.mt_shared.specs.Inner.{InnerView, IsInner, IsRefusedBy, has_counters}

-- a get or a range
abbrev pub IsRead : Request → Type 0
IsRead (Get key asked) = Unit {0}
IsRead (Range start limit asked) = Unit {0}
IsRead _ = ⊥

-- an answer to a get or a range: it changes nothing
abbrev pub IsReadAnswer : Answer → Type 0
IsReadAnswer Absent = Unit {0}
IsReadAnswer (Found row) = Unit {0}
IsReadAnswer (Rows pairs) = Unit {0}
IsReadAnswer _ = ⊥

-- the pass has counters, no put, remove or tidy is open, and no trace is kept, in which a read would be missing
abbrev pub MayRead : InnerView → PassNo → Type 0
MayRead s pass = (has_counters pass s.counters ≡ true) × IsQuiet s.machine × (s.trace ≡ Off)

-- at each history at which the machine is, the answer is that of a plain map of the rows
abbrev pub IsPlainNow : MachineView → Request → Answer → Type 0
IsPlainNow m request answer = (h : History) → Stands m h
    → IsPlain (rows m.columns (moment h)) (length (moment h).commits) request answer []

-- and this is the number of commits
abbrev pub IsNow : MachineView → ℕ → Type 0
IsNow m at = (h : History) → Stands m h → at ≡ length (moment h).commits

-- What a read at once of a pass gives for this request: the number of commits and the answer; or the refusal that is due,
-- or out of memory. It gives nothing exactly if the request is no read, or may not be read at once.
pub record ReadsNow (s : InnerView) (pass : PassNo) (request : Request)
    (result : Option (Result (ℕ × Answer) Refusal)) : Type 0 where
  pub may : IsSome result ↔ (IsRead request × MayRead s pass)
  pub answer : IfSome result (λ read. IfOk read (λ now. IsNow s.machine now.0 × IsPlainNow s.machine request now.1))
  pub fault : IfSome result (IsRefusedBy (request_fault s.machine.columns request))

-- the same of something that the lock keeps
pub record ReadsSomewhere (pass : PassNo) (request : Request)
    (result : Option (Result (ℕ × Answer) Refusal)) : Type 0 where
  pub kept : InnerView
  pub keeps : IsInner kept
  pub reads : ReadsNow kept pass request result

-- ---- a call that may be a read at once

-- what a read at once of a pass gives for a request, of what is shared, S
abbrev pub ReadLaw : Type 0 → Type 1
ReadLaw S = S → PassNo → Request → Option (Result (ℕ × Answer) Refusal) → Type 0

-- the reply of a read at once: it begins and ends at one number of commits, and is of no call
abbrev pub read_reply : PassNo → ℕ → Answer → Reply
read_reply pass at answer = record { pass = pass; call = record { 0 = 0 }; from = at; to = at; answer = answer }

-- what a pass gets of a read, and what it has seen then: a reply from before what it had seen is of another index
abbrev pub IsToldNow : PassView → Result (ℕ × Answer) Refusal → Result Reply Refusal → PassView → Type 0
IsToldNow p (Ok now) result q =
    ((now.0 < p.seen) × (result ≡ Err WrongPass) × (q ≡ p))
    ⊎ ((p.seen ≤ now.0) × (result ≡ Ok (read_reply p.number now.0 now.1)) × (q ≡ record p { seen = now.0 }))
IsToldNow p (Err refusal) result q = (result ≡ Err refusal) × (q ≡ p)

-- The call was read at once, between the events before and after. Nothing has changed but what the pass has seen.
pub record IsReadNow {S : Type 0} (shows : ReadLaw S) (s : S) (p : PassView) (request : Request)
    (result : Result Reply Refusal) (t : S) (q : PassView) : Type 0 where
  pub same : t ≡ s
  pub read : Result (ℕ × Answer) Refusal
  pub shown : shows s p.number request (Some read)
  pub told : IsToldNow p read result q

-- the request is no get or range, or a read at once of it gives nothing
abbrev pub MustDrive : {S : Type 0} → ReadLaw S → S → PassNo → Request → Type 0
MustDrive shows s pass request = (¬ IsRead request) ⊎ shows s pass request None

-- A CALL: read at once; or, if it may not be, driven from its begin to its end by events
abbrev pub IsCall : {S : Type 0} → EventLaw S → ReadLaw S → S → PassView → Request → Result Reply Refusal → S → PassView
    → Type 0
IsCall does shows s p request result t q =
    (MustDrive shows s p.number request × IsDrive does s p request result t q)
    ⊎ IsReadNow shows s p request result t q
