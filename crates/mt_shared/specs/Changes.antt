-- Calls after which views are kept up.
use Rattle.std.specs.Prelude.{ℕ, ◌≡◌, ◌≤◌, ◌<◌, ◌⊎◌, Bool, true, false, Result, Ok, Err, MatchBool}
use Rattle.mt_types.specs.Limited.{AnswerIsLimited}
use Rattle.mt_types.specs.declared.numbers.CallNo.{CallNo}
use Rattle.mt_types.specs.declared.refusal.Refusal.{Refusal}
use Rattle.mt_types.specs.declared.event.Answer.{Answer}
use Rattle.mt_types.specs.declared.event.Answer.TheVariants.{Stored, Removed, Built}
use Rattle.mt_types.specs.declared.event.Outcome.TheVariants.{Done}
use Rattle.mt_types.specs.declared.event.Request.{Request}
use Rattle.mt_types.specs.declared.event.Reply.{Reply}
use Rattle.mt_shared.specs.declared.changing.Changed.{Changed}
use Rattle.mt_shared.specs.declared.changing.Changed.TheVariants.{Started as StartedOnly, Ended}
use Rattle.mt_shared.specs.declared.driving.Started.{Started}
use Rattle.mt_shared.specs.declared.driving.Started.TheVariants.{Ran}
use Rattle.mt_shared.specs.Inner.{InnerView, StartsFully}
use Rattle.mt_shared.specs.Passes.{PassView}
use Rattle.mt_shared.specs.Drives.{EventLaw, IsDrive, IsStarted, StartIsLimited}
use Rattle.mt_shared.specs.Turns.{KeepsUp, IsStopped}

-- a row was changed, or a view was built: then views may be behind
abbrev pub is_change : Answer → Bool
is_change (Stored number) = true
is_change (Removed number) = true
is_change (Built view) = true
is_change _ = false

abbrev pub has_changed : Result Reply Refusal → Bool
has_changed (Ok reply) = is_change reply.answer
has_changed (Err refusal) = false

-- views are kept up, in at most `most` turns: until all are at the newest commit, or a turn is refused
abbrev pub KeepsViews : {S : Type 0} → EventLaw S → S → PassView → ℕ → S → PassView → Type 0
KeepsViews does s p most t q =
    ((applied : ℕ) × KeepsUp does s p most applied t q) ⊎ ((refusal : Refusal) × IsStopped does s p most refusal t q)

-- the start has not ended its call by a change that begins no earlier than what the pass had seen
abbrev pub LeavesViews : ℕ → Started → Type 0
LeavesViews seen (Ran call (Done reply)) = (reply.from < seen) ⊎ (is_change reply.answer ≡ false)
LeavesViews seen started = Unit {0}

-- HOW A CALL IS STARTED AFTER WHICH VIEWS ARE KEPT UP: it is started, and no more if that ends it by no change; or it is
-- started, its run ends it by a change with this reply, and views are then kept up
abbrev pub IsChanged : {S : Type 0} → EventLaw S → S → PassView → Request → ℕ → Changed → S → PassView → Type 0
IsChanged does s p request most (StartedOnly started) t q = IsStarted does s p request started t q
    × LeavesViews p.seen started
IsChanged {S} does s p request most (Ended reply) t q =
    (m : S) × (r : PassView) × (call : CallNo) × IsStarted does s p request (Ran call (Done reply)) m r
    × (p.seen ≤ reply.from) × (is_change reply.answer ≡ true) × KeepsViews does m r most t q

-- what it answers keeps the limits of an index
abbrev pub ChangeIsLimited : Changed → Type 0
ChangeIsLimited (StartedOnly started) = StartIsLimited started
ChangeIsLimited (Ended reply) = AnswerIsLimited reply.answer

-- a call that was only started has made all the events that it may, or no more can be counted (see `StartsFully`)
abbrev pub ChangesFully : InnerView → PassView → ℕ → Changed → InnerView → PassView → Type 0
ChangesFully s p most (StartedOnly started) t q = StartsFully s p most started t q
ChangesFully s p most (Ended reply) t q = Unit {0}

-- A CALL AND ITS VIEWS: the call is driven; if it has changed a row or built a view, views are then kept up
abbrev pub IsDriveKept : {S : Type 0} → EventLaw S → S → PassView → Request → ℕ → Result Reply Refusal → S → PassView
    → Type 0
IsDriveKept {S} does s p request most result t q =
    (m : S) × (r : PassView) × IsDrive does s p request result m r
    × MatchBool (has_changed result) (KeepsViews does m r most t q) ((t ≡ m) × (q ≡ r))
