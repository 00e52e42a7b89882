-- The events by which a pass reads views, keeps them up and frees nodes.
use Rattle.std.specs.Prelude.{ℕ, ◌≡◌, ◌<◌, ◌⊎◌, ⊤, List, [], ◌∷◌, ◌++◌, length, All, Option, Some, None, Result, Ok, Err}
use Rattle.mt_types.specs.declared.numbers.PassNo.{PassNo}
use Rattle.mt_types.specs.declared.refusal.Refusal.{Refusal}
use Rattle.mt_types.specs.declared.refusal.Refusal.TheVariants.{WrongPass}
use Rattle.mt_types.specs.declared.event.Event.{Event}
use Rattle.mt_types.specs.declared.event.Event.TheVariants.{Advance, Apply, Begin, Collect, Step}
use Rattle.mt_types.specs.declared.event.Outcome.{Outcome}
use Rattle.mt_types.specs.declared.event.Outcome.TheVariants.{Applied, Current, Dropped, Freed, Refused}
use Rattle.mt_shared.specs.declared.trace.Entry.{Entry}
use Rattle.mt_shared.specs.Traces.{entry, Gains}
use Rattle.mt_shared.specs.Passes.{PassView}
use Rattle.mt_shared.specs.Drives.{EventLaw, Runs}

-- the outcome of the event that dropped a view, or of one that was refused
abbrev pub drop_outcome : Result ⊤ Refusal → Outcome
drop_outcome (Ok done) = Dropped
drop_outcome (Err refusal) = Refused refusal

-- an event that is no part of a call
abbrev pub IsOutside : Event → Type 0
IsOutside (Begin pass request) = ⊥
IsOutside (Step call) = ⊥
IsOutside _ = Unit {0}

-- the outcome of the event that advanced a view, if it was behind, or of one that was refused
abbrev pub apply_outcome : Result (Option ℕ) Refusal → Outcome
apply_outcome (Ok (Some number)) = Applied number
apply_outcome (Ok None) = Current
apply_outcome (Err refusal) = Refused refusal

-- how many nodes an event has freed. An outcome of another kind is of another index.
abbrev pub freed_of : Outcome → Result ℕ Refusal
freed_of (Freed count) = Ok count
freed_of (Refused refusal) = Err refusal
freed_of _ = Err WrongPass

-- the epoch advances, and then the nodes are freed that no open call can still visit
abbrev pub FreesSome : {S : Type 0} → EventLaw S → S → PassView → Result ℕ Refusal → S → PassView → Type 0
FreesSome {S} does s p result t q =
    (m : S) × (r : PassView) × (next : Outcome) × (freed : Outcome) × does s p Advance next m r
    × does m r Collect freed t q × (result ≡ freed_of freed)

-- the apply of the view that is furthest behind
abbrev pub furthest : Event
furthest = Apply (record { 0 = 0 })

-- a turn of the pass: such an apply
abbrev pub turn : PassNo → Outcome → Entry
turn pass outcome = entry pass furthest outcome

-- a turn that advanced the view
abbrev pub IsTurn : PassNo → Entry → Type 0
IsTurn pass x = (number : ℕ) × (x ≡ turn pass (Applied number))

-- this many turns that each advanced a view were made, one after another, and then these events
pub record HasTurned {S : Type 0} (does : EventLaw S) (s : S) (p : PassView) (applied : ℕ) (last : List Entry)
    (t : S) (q : PassView) : Type 0 where
  pub turns : List Entry
  pub count : length turns ≡ applied
  pub are_turns : All (IsTurn p.number) turns
  pub runs : Runs does s p (turns ++ last) t q

-- after this many turns that advanced a view there was no other turn, since no more were to be made; or there was one
-- that found every view at the newest commit
abbrev pub IsLast : PassNo → ℕ → ℕ → List Entry → Type 0
IsLast pass most applied last =
    ((applied ≡ most) × (last ≡ [])) ⊎ ((applied < most) × (last ≡ turn pass Current ∷ []))

-- of at most `most` turns, `applied` advanced a view, and the pass's own trace gained exactly the turns that were made
pub record KeepsUp {S : Type 0} (does : EventLaw S) (s : S) (p : PassView) (most applied : ℕ)
    (t : S) (q : PassView) : Type 0 where
  pub last : List Entry
  pub is_last : IsLast p.number most applied last
  pub turned : HasTurned does s p applied last t q
  pub traced : Gains p.trace (turned.turns ++ last) q.trace

-- after fewer than `most` turns that advanced a view, one was refused with this refusal
pub record IsStopped {S : Type 0} (does : EventLaw S) (s : S) (p : PassView) (most : ℕ) (refusal : Refusal)
    (t : S) (q : PassView) : Type 0 where
  pub applied : ℕ
  pub fewer : applied < most
  pub turned : HasTurned does s p applied (turn p.number (Refused refusal) ∷ []) t q
