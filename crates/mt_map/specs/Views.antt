-- The events by which a map reads its views, advances them, and frees memory.
use Rattle.std.specs.Prelude.{ℕ, zero, suc, ◌≡◌, ◌<◌, ◌⊎◌, List, Option, Some, None, Result, Ok, Err}
use Rattle.mt_types.specs.declared.refusal.Refusal.{Refusal}
use Rattle.mt_types.specs.declared.event.Event.{Event}
use Rattle.mt_types.specs.declared.event.Event.TheVariants.{Apply, Begin, Step}
use Rattle.mt_types.specs.declared.event.Outcome.{Outcome}
use Rattle.mt_types.specs.declared.event.Outcome.TheVariants.{Applied, Current, Refused}
use Rattle.mt_types.specs.declared.view.Page.{Page}
use Rattle.mt_promise.specs.History.{Moment, StandingView, view_of}
use Rattle.mt_promise.specs.Legal.{page_of}
use Rattle.mt_index.specs.Events.{Makes}
use Rattle.mt_index.specs.Stands.{MachineView}

-- an event that is no part of a call
abbrev pub IsOutside : Event → Type 0
IsOutside (Begin pass request) = ⊥
IsOutside (Step call) = ⊥
IsOutside _ = Unit {0}

-- the outcome of the event by which a method has this result
abbrev pub outcome_of : {A : Type 0} → (A → Outcome) → Result A Refusal → Outcome
outcome_of outcome (Ok found) = outcome found
outcome_of outcome (Err refusal) = Refused refusal

-- there is a view of this number, and the page shows exactly what its specification yields of the rows after the commits
-- at which it is
pub record ShowsView (C : ℕ) (m : Moment) (number : ℕ) (start : List ℕ) (limit : ℕ) (page : Page) : Type 0 where
  pub view : StandingView
  pub there : view_of number m.views ≡ Some view
  pub shows : page ≡ page_of C m view start limit

-- a view was advanced, or there was nothing to do
abbrev pub applied_outcome : Option ℕ → Outcome
applied_outcome (Some number) = Applied number
applied_outcome None = Current

-- the apply of the view that is furthest behind
abbrev pub furthest : Event
furthest = Apply (record { 0 = 0 })

-- this many turns, one after the other, each of which advanced a view
abbrev pub Turns : ℕ → MachineView → MachineView → Type 0
Turns zero s t = t ≡ s
Turns (suc turns) s t = (m : MachineView) × (number : ℕ) × Turns turns s m × Makes m furthest (Applied number) t

-- of at most `most` turns, `applied` advanced a view: then there was no other turn, since no more were to be made; or
-- there was one, which found every view at the newest commit
abbrev pub KeepsUp : MachineView → ℕ → ℕ → MachineView → Type 0
KeepsUp s most applied t =
    ((applied ≡ most) × Turns applied s t)
    ⊎ ((applied < most) × (m : MachineView) × Turns applied s m × Makes m furthest Current t)

-- after fewer than `most` turns that advanced a view, one was refused with this refusal
abbrev pub IsStopped : MachineView → ℕ → Refusal → MachineView → Type 0
IsStopped s most refusal t =
    (applied : ℕ) × (applied < most) × (m : MachineView) × Turns applied s m × Makes m furthest (Refused refusal) t
