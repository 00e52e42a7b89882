-- The events that a call is driven by.
use Rattle.std.specs.Prelude.{ℕ, ◌≡◌, ◌≤◌, ◌<◌, ◌⊎◌, List, [], ◌∷◌, ◌++◌, All}
use Rattle.std.specs.Prelude.{Option, Some, None, Result, Ok, Err, IfOk, IfErr}
use Rattle.mt_types.specs.declared.numbers.PassNo.{PassNo}
use Rattle.mt_types.specs.declared.numbers.CallNo.{CallNo}
use Rattle.mt_types.specs.declared.refusal.Refusal.{Refusal}
use Rattle.mt_types.specs.declared.refusal.Refusal.TheVariants.{WrongPass}
use Rattle.mt_types.specs.declared.event.Event.{Event}
use Rattle.mt_types.specs.declared.event.Event.TheVariants.{Begin, Step}
use Rattle.mt_types.specs.declared.event.Request.{Request}
use Rattle.mt_types.specs.declared.event.Reply.{Reply}
use Rattle.mt_types.specs.declared.event.Outcome.{Outcome}
use Rattle.mt_types.specs.declared.event.Outcome.TheVariants.{Call, Moved, Again, Commit, Done, Refused}
use Rattle.mt_types.specs.Limited.{OutcomeIsLimited}
use Rattle.mt_index.specs.Events.{GoesOnAtOnce}
use Rattle.mt_shared.specs.declared.trace.Entry.{Entry}
use Rattle.mt_shared.specs.Traces.{entry, Gains}
use Rattle.mt_shared.specs.declared.driving.Started.{Started}
use Rattle.mt_shared.specs.declared.driving.Started.TheVariants.{Refused as RefusedStart, Begun, Ran}
use Rattle.mt_shared.specs.Passes.{PassView, IsTold}

-- what one event does to what is shared, S, and to the pass
abbrev pub EventLaw : Type 0 → Type 1
EventLaw S = S → PassView → Event → Outcome → S → PassView → Type 0

-- these events were made one after another, the oldest first
abbrev pub Runs : {S : Type 0} → EventLaw S → S → PassView → List Entry → S → PassView → Type 0
Runs does s p [] t q = (t ≡ s) × (q ≡ p)
Runs {S} does s p (x ∷ xs) t q = (m : S) × (r : PassView) × does s p x.event x.outcome m r × Runs does m r xs t q

-- the call continues
abbrev pub Continues : Outcome → Type 0
Continues Moved = Unit {0}
Continues Again = Unit {0}
Continues (Commit number) = Unit {0}
Continues _ = ⊥

-- a step of the call, after which the call continues
pub record IsStep (p : PassNo) (call : CallNo) (x : Entry) : Type 0 where
  pub pass : x.pass ≡ p
  pub event : x.event ≡ Step call
  pub outcome : Continues x.outcome

-- a step of the call, after which the call continues, and doesn't wait
pub record IsRunStep (p : PassNo) (call : CallNo) (x : Entry) : Type 0 where
  pub pass : x.pass ≡ p
  pub event : x.event ≡ Step call
  pub outcome : GoesOnAtOnce x.outcome

-- A RUN OF A CALL: steps of it, one after another, after each of which but the last it continues, and doesn't wait. The
-- last has this outcome, and the pass learns of it.
pub record HasGone {S : Type 0} (does : EventLaw S) (s : S) (p : PassView) (call : CallNo) (last : Outcome)
    (t : S) (q : PassView) : Type 0 where
  pub steps : List Entry
  pub are_steps : All (IsRunStep p.number call) steps
  pub then : S
  pub between : PassView
  pub runs : Runs does s p steps then between
  pub traced : Gains p.trace steps between.trace
  pub number : between.number ≡ p.number
  pub seen : p.seen ≤ between.seen
  pub events : p.events ≤ between.events
  pub made : does then between (Step call) last t q
  pub told : IsTold between (Step call) last q

-- the begin of a call of the pass had this outcome, and the pass learns of it
abbrev pub IsBegun : {S : Type 0} → EventLaw S → S → PassView → Request → Outcome → S → PassView → Type 0
IsBegun does s p request outcome t q =
    does s p (Begin p.number request) outcome t q × IsTold p (Begin p.number request) outcome q

-- HOW A CALL IS STARTED: its begin is refused; or it has begun; or it has begun and a run of it was made
abbrev pub IsStarted : {S : Type 0} → EventLaw S → S → PassView → Request → Started → S → PassView → Type 0
IsStarted does s p request (RefusedStart refusal) t q = IsBegun does s p request (Refused refusal) t q
IsStarted does s p request (Begun call) t q = IsBegun does s p request (Call call) t q
IsStarted {S} does s p request (Ran call last) t q =
    (m : S) × (r : PassView) × IsBegun does s p request (Call call) m r × HasGone does m r call last t q

-- what a start answers keeps the limits of an index
abbrev pub StartIsLimited : Started → Type 0
StartIsLimited (Ran call last) = OutcomeIsLimited last
StartIsLimited _ = Unit {0}

-- the begin of a call, these steps of it, and its last step
abbrev pub whole : PassNo → Request → CallNo → List Entry → Outcome → List Entry
whole pass request call steps last =
    (entry pass (Begin pass request) (Call call) ∷ steps) ++ (entry pass (Step call) last ∷ [])

-- A call of the pass was driven to this reply: by its begin, by steps after which it continues, and by the step that
-- ends it with the reply.
pub record IsDriven {S : Type 0} (does : EventLaw S) (s : S) (p : PassView) (request : Request) (reply : Reply)
    (t : S) (q : PassView) : Type 0 where
  pub steps : List Entry
  pub are_steps : All (IsStep p.number reply.call) steps
  pub runs : Runs does s p (whole p.number request reply.call steps (Done reply)) t q
  pub traced : Gains p.trace (whole p.number request reply.call steps (Done reply)) q.trace

-- the last outcome ends a call with this refusal: it is that refusal, or a reply from before what the pass had seen
abbrev pub EndsIn : Refusal → ℕ → Outcome → Type 0
EndsIn refusal seen (Refused cause) = cause ≡ refusal
EndsIn refusal seen (Done reply) = (reply.from < seen) × (refusal ≡ WrongPass)
EndsIn refusal seen _ = ⊥

-- the outcome of a step ends no call
abbrev pub EndsNone : Outcome → Type 0
EndsNone (Done reply) = ⊥
EndsNone (Refused refusal) = ⊥
EndsNone _ = Unit {0}

-- what the outcome of a step ends its call with, if the pass had seen this many commits: nothing, a reply or a refusal
abbrev pub Ends : ℕ → Outcome → Option (Result Reply Refusal) → Type 0
Ends seen outcome None = EndsNone outcome
Ends seen outcome (Some (Ok reply)) = (outcome ≡ Done reply) × (seen ≤ reply.from)
Ends seen outcome (Some (Err refusal)) = EndsIn refusal seen outcome

-- a call was driven until a step ended it with this refusal
pub record IsCut {S : Type 0} (does : EventLaw S) (s : S) (p : PassView) (request : Request) (refusal : Refusal)
    (t : S) (q : PassView) : Type 0 where
  pub call : CallNo
  pub steps : List Entry
  pub last : Outcome
  pub are_steps : All (IsStep p.number call) steps
  pub runs : Runs does s p (whole p.number request call steps last) t q
  pub ends : EndsIn refusal p.seen last

-- a call of the pass was refused for this, at its begin or after it
abbrev pub IsRefused : {S : Type 0} → EventLaw S → S → PassView → Request → Refusal → S → PassView → Type 0
IsRefused does s p request refusal t q =
    does s p (Begin p.number request) (Refused refusal) t q ⊎ IsCut does s p request refusal t q

-- a reply to the pass: it carries the pass, it begins no earlier than what the pass had seen, and the pass has then
-- seen its end
pub record IsReplyTo (p : PassView) (reply : Reply) (q : PassView) : Type 0 where
  pub pass : reply.pass ≡ p.number
  pub from : p.seen ≤ reply.from
  pub to : reply.to ≤ q.seen

-- what a call of the pass, driven to its end, came to
pub record IsDrive {S : Type 0} (does : EventLaw S) (s : S) (p : PassView) (request : Request)
    (result : Result Reply Refusal) (t : S) (q : PassView) : Type 0 where
  pub number : q.number ≡ p.number
  pub seen : p.seen ≤ q.seen
  pub reply : IfOk result (λ reply. IsReplyTo p reply q)
  pub driven : IfOk result (λ reply. IsDriven does s p request reply t q)
  pub refused : IfErr result (λ refusal. IsRefused does s p request refusal t q)

-- whatever call was started and led here, it was then driven to this end, if its pass had seen this many commits before
abbrev pub Finishes : {S : Type 0} → EventLaw S → ℕ → Started → S → PassView → Result Reply Refusal → S → PassView → Type 0
Finishes {S} does seen started m r result t q =
    (s : S) (p : PassView) (request : Request) → seen ≡ p.seen → IsStarted does s p request started m r
    → IsDrive does s p request result t q
