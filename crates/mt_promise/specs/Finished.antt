-- What each legal history says of a call that has finished: it began once and ended once; its reply carries its pass, its
--     number and how many commits there were when it began and when it ended; the change that it made was made in
--     between; the commit that it names is its own, and so is the view that a build gives.
use Rattle.std.specs.Prelude.{ℕ, ◌+◌, ◌≡◌, ◌<◌, ◌≤◌, ◌⊎◌, slice_get, length, Option, Some, None}
use Rattle.mt_types.specs.declared.numbers.ViewNo.{ViewNo}
use Rattle.mt_types.specs.declared.row.Change.{Change}
use Rattle.mt_types.specs.declared.row.Change.TheVariants.{Put as PutChange, Drop}
use Rattle.mt_types.specs.declared.event.Answer.{Answer}
use Rattle.mt_types.specs.declared.event.Answer.TheVariants.{Absent, Stored, Removed, Built}
use Rattle.mt_types.specs.declared.event.Reply.{Reply}
use Rattle.mt_types.specs.declared.event.Request.{Request}
use Rattle.mt_types.specs.declared.event.Request.TheVariants.{Put, PutIf, Remove}
use Rattle.mt_promise.specs.History.{History, Moment, moment}
use Rattle.mt_promise.specs.Headline.{IsFinished}
use Rattle.mt_promise.specs.Legal.{Legal}

-- what the reply of a finished call carries
pub record CarriesItsOwn (h : History) (request : Request) (reply : Reply) (before past : History)
    (f : IsFinished h request reply before past) : Type 0 where
  pub pass : reply.pass.0 ≡ f.pass.0
  pub number : reply.call.0 ≡ f.number.0
  pub from : reply.from ≡ length (moment before).commits
  pub to : reply.to ≡ length (moment past).commits

-- this change is the commit of this number, and was made between the begin and the end of the call
pub record IsWithin (reply : Reply) (number : ℕ) (change : Change) (m : Moment) : Type 0 where
  pub since : reply.from < number
  pub until : number ≤ reply.to
  pub place : ℕ
  pub counted : number ≡ place + 1
  pub there : slice_get m.commits place ≡ Some change

-- a put has made its change; so has a remove, unless its key was absent
abbrev pub HasMade : Request → Reply → Moment → Type 0
HasMade (Put key sets) reply m = (number : ℕ) × (reply.answer ≡ Stored number) × IsWithin reply number (PutChange key sets) m
HasMade (PutIf key sets version) reply m =
    (number : ℕ) × (reply.answer ≡ Stored number) × IsWithin reply number (PutChange key sets) m
HasMade (Remove key) reply m =
    (reply.answer ≡ Absent)
    ⊎ ((number : ℕ) × (reply.answer ≡ Removed number) × IsWithin reply number (Drop key) m)
HasMade _ reply m = Unit {0}

abbrev pub FinishedCallsCarryTheirOwn : Type 0
FinishedCallsCarryTheirOwn =
    (C : ℕ) (h : History) (request : Request) (reply : Reply) (before past : History) → Legal C h
    → (f : IsFinished h request reply before past) → CarriesItsOwn h request reply before past f

abbrev pub FinishedCallsHaveMade : Type 0
FinishedCallsHaveMade =
    (C : ℕ) (h : History) (request : Request) (reply : Reply) (before past : History) → Legal C h
    → IsFinished h request reply before past → HasMade request reply (moment past)

-- two calls of one number are one call
abbrev pub CallsFinishOnce : Type 0
CallsFinishOnce =
    (C : ℕ) (h : History) (request other : Request) (reply again : Reply) (before early past late : History) → Legal C h
    → (f : IsFinished h request reply before past) → (g : IsFinished h other again early late)
    → f.number.0 ≡ g.number.0
    → (before ≡ early) × (past ≡ late) × (request ≡ other) × (reply ≡ again)

-- two builds that gave one view are one call
abbrev pub ViewsAreBuiltOnce : Type 0
ViewsAreBuiltOnce =
    (C : ℕ) (h : History) (request other : Request) (reply again : Reply) (before early past late : History)
    (view : ViewNo) → Legal C h
    → (f : IsFinished h request reply before past) → (g : IsFinished h other again early late)
    → reply.answer ≡ Built view → again.answer ≡ Built view → (past ≡ late) × (reply ≡ again)

-- the commit that an answer names
abbrev pub commit_named : Answer → Option ℕ
commit_named (Stored number) = Some number
commit_named (Removed number) = Some number
commit_named _ = None

-- two calls that named one commit are one call
abbrev pub CommitsAreNamedOnce : Type 0
CommitsAreNamedOnce =
    (C : ℕ) (h : History) (request other : Request) (reply again : Reply) (before early past late : History)
    (number : ℕ) → Legal C h
    → IsFinished h request reply before past → IsFinished h other again early late
    → commit_named reply.answer ≡ Some number → commit_named again.answer ≡ Some number
    → (before ≡ early) × (past ≡ late) × (request ≡ other) × (reply ≡ again)
