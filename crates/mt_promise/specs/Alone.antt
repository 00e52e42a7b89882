-- A call alone: it begins where no call is open, and nothing else happens until it has ended. It answers as a plain
-- map does.
use Rattle.std.specs.Prelude.{ℕ, ◌+◌, ◌≡◌, ◌≢◌, List, [], ◌∷◌, ◌++◌, length, Some, None, IsSome}
use Rattle.std.specs.FinMap.{get}
use Rattle.mt_types.specs.Ranges.{IsRangeAnswer}
use Rattle.mt_types.specs.Rows.{Rows, shown, version_of}
use Rattle.mt_promise.specs.History.{History, happening, Moment, moment, rows, view_built}
use Rattle.mt_promise.specs.Legal.{Legal}
use Rattle.mt_types.specs.declared.numbers.PassNo.{PassNo}
use Rattle.mt_types.specs.declared.numbers.CallNo.{CallNo}
use Rattle.mt_types.specs.declared.row.Row.{Row}
use Rattle.mt_types.specs.declared.row.Change.{Change}
use Rattle.mt_types.specs.declared.row.Change.TheVariants.{Put as PutChange, Drop}
use Rattle.mt_types.specs.declared.refusal.Refusal.{Refusal}
use Rattle.mt_types.specs.declared.refusal.Refusal.TheVariants.{OtherVersion}
use Rattle.mt_types.specs.declared.event.Event.TheVariants.{Begin, Step}
use Rattle.mt_types.specs.declared.event.Outcome.{Outcome}
use Rattle.mt_types.specs.declared.event.Outcome.TheVariants.{Call, Moved, Again, Commit, Done, Refused}
use Rattle.mt_types.specs.declared.event.Reply.{Reply}
use Rattle.mt_types.specs.declared.event.Request.{Request}
use Rattle.mt_types.specs.declared.event.Request.TheVariants.{Get, Put, PutIf, Remove, Range, Tidy, Build}
use Rattle.mt_types.specs.declared.event.Answer.{Answer}
use Rattle.mt_types.specs.declared.event.Answer.TheVariants.{Absent, Found, Stored, Removed, Rows as RowsAnswer, Tidied, Built}

-- the key's row in a map is shown so
abbrev pub ShowsRow : Rows → List ℕ → List ℕ → Row → Type 0
ShowsRow map asked key answer = (row : Row) × (get map key ≡ Some row) × (answer ≡ shown asked row)

-- the first pairs of a map from a key on, up to a limit: those and no others, in the order of their keys
abbrev pub IsRangeOfMap : Rows → List ℕ → List ℕ → ℕ → List (List ℕ × Row) → Type 0
IsRangeOfMap map asked start limit pairs =
    IsRangeAnswer (ShowsRow map asked) (λ key. IsSome (get map key)) start limit pairs

-- WHAT A PLAIN MAP ANSWERS, after a number of commits; and the changes that it makes by that
abbrev pub IsPlain : Rows → ℕ → Request → Answer → List Change → Type 0
IsPlain map commits (Get key asked) Absent made = (get map key ≡ None) × (made ≡ [])
IsPlain map commits (Get key asked) (Found row) made = ShowsRow map asked key row × (made ≡ [])
IsPlain map commits (Put key sets) (Stored number) made = (number ≡ commits + 1) × (made ≡ PutChange key sets ∷ [])
IsPlain map commits (PutIf key sets version) (Stored number) made =
    (version_of (get map key) ≡ version) × (number ≡ commits + 1) × (made ≡ PutChange key sets ∷ [])
IsPlain map commits (Remove key) (Removed number) made =
    IsSome (get map key) × (number ≡ commits + 1) × (made ≡ Drop key ∷ [])
IsPlain map commits (Remove key) Absent made = (get map key ≡ None) × (made ≡ [])
IsPlain map commits (Range start limit asked) (RowsAnswer pairs) made =
    IsRangeOfMap map asked start limit pairs × (made ≡ [])
IsPlain map commits (Tidy key) (Tidied rule) made = made ≡ []
IsPlain map commits (Build spec) (Built number) made = made ≡ []
IsPlain map commits _ _ made = ⊥

-- a conditional put asks for another version than this one, of which its key's row is
abbrev pub AsksForOther : Rows → Request → ℕ → Type 0
AsksForOther map (PutIf key sets version) found = (found ≡ version_of (get map key)) × (found ≢ version)
AsksForOther map _ found = ⊥

-- A plain map refuses a conditional put for the version of a row, and tells it. Of other causes it knows nothing.
abbrev pub IsPlainRefusal : Rows → Request → Refusal → Type 0
IsPlainRefusal map request (OtherVersion found) = AsksForOther map request found
IsPlainRefusal map request _ = Unit {0}

-- the call continues
abbrev pub GoesOnBy : Outcome → Type 0
GoesOnBy Moved = Unit {0}
GoesOnBy Again = Unit {0}
GoesOnBy (Commit number) = Unit {0}
GoesOnBy _ = ⊥

-- these events are steps of the call of this number, by none of which it ends
abbrev pub AreStepsOf : CallNo → History → Type 0
AreStepsOf number [] = Unit {0}
AreStepsOf number (x ∷ steps) = (x.event ≡ Step number) × GoesOnBy x.outcome × AreStepsOf number steps

-- A call of this request began, where before had happened and no call was open, and made these steps; nothing else
-- happened: so it comes to past, and is open.
pub record RunsAlone (request : Request) (number : CallNo) (before past : History) : Type 0 where
  pub nothing_open : (moment before).calls ≡ []
  pub pass : PassNo
  pub note : ℕ
  pub steps : History
  pub are_steps : AreStepsOf number steps
  pub is_past : past ≡ steps ++ happening (Begin pass request) (Call number) note ∷ before

-- a call alone of this pass and number began after this, ran, and ended by a step of this outcome
pub record RunsThrough (pass : PassNo) (number : CallNo) (request : Request) (before : History) (outcome : Outcome)
    (after : History) : Type 0 where
  pub past : History
  pub run : RunsAlone request number before past
  pub same_pass : run.pass ≡ pass
  pub note : ℕ
  pub is_after : after ≡ happening (Step number) outcome note ∷ past

-- or its begin was refused
abbrev pub IsTurnedAway : PassNo → Request → History → Refusal → History → Type 0
IsTurnedAway pass request before refusal after = after ≡ happening (Begin pass request) (Refused refusal) 0 ∷ before

-- the call alone, of this pass and number, has done as a plain map: by its answer, and by the commits that there are
-- since; its reply carries its pass and number, and how many commits there were and are; no call is open
pub record EndsPlainly (C : ℕ) (before : History) (pass : PassNo) (number : CallNo) (request : Request) (reply : Reply)
    (after : Moment) : Type 0 where
  pub same_pass : reply.pass.0 ≡ pass.0
  pub same_call : reply.call.0 ≡ number.0
  pub from : reply.from ≡ length (moment before).commits
  pub to : reply.to ≡ length after.commits
  pub made : List Change
  pub plain : IsPlain (rows C (moment before)) (length (moment before).commits) request reply.answer made
  pub commits : after.commits ≡ (moment before).commits ++ made
  -- a build's view is at the number of all commits; other calls change no view
  pub views : after.views ≡ (moment before).views
      ++ view_built request reply.answer (length (moment before).commits)
  pub closed : after.calls ≡ []

-- the call alone was refused, and nothing has come of it
pub record EndsRefused (C : ℕ) (before : History) (request : Request) (refusal : Refusal)
    (after : Moment) : Type 0 where
  pub plain : IsPlainRefusal (rows C (moment before)) request refusal
  pub commits : after.commits ≡ (moment before).commits
  pub views : after.views ≡ (moment before).views
  pub closed : after.calls ≡ []

-- the laws
abbrev pub LoneCallsArePlain : Type 0
LoneCallsArePlain =
    (C : ℕ) (request : Request) (number : CallNo) (reply : Reply) (end : ℕ) (before past : History)
    → (run : RunsAlone request number before past) → Legal C (happening (Step number) (Done reply) end ∷ past)
    → EndsPlainly C before run.pass number request reply (moment (happening (Step number) (Done reply) end ∷ past))

abbrev pub LoneRefusalsDoNothing : Type 0
LoneRefusalsDoNothing =
    (C : ℕ) (request : Request) (number : CallNo) (refusal : Refusal) (end : ℕ) (before past : History)
    → RunsAlone request number before past → Legal C (happening (Step number) (Refused refusal) end ∷ past)
    → EndsRefused C before request refusal (moment (happening (Step number) (Refused refusal) end ∷ past))
