-- What a call that runs alone leaves, whichever history the machine is at.
use Rattle.std.specs.Prelude.{ℕ, ◌≡◌, ◌≤◌, ◌+◌, ◌*◌, ◌⊎◌, [], length}
use Rattle.std.proofs.Common.{inl, inr}
use Rattle.mt_types.specs.declared.numbers.PassNo.{PassNo}
use Rattle.mt_types.specs.declared.numbers.CallNo.{CallNo}
use Rattle.mt_types.specs.declared.refusal.Refusal.{Refusal}
use Rattle.mt_types.specs.declared.event.Request.{Request}
use Rattle.mt_types.specs.declared.event.Request.TheVariants.{Get}
use Rattle.mt_types.specs.declared.event.Reply.{Reply}
use Rattle.mt_types.specs.declared.event.Outcome.TheVariants.{Done, Refused}
use Rattle.mt_promise.specs.History.{History, moment}
use Rattle.mt_promise.specs.declared.limits.TheConstants.{MAX_READS}
use Rattle.mt_promise.specs.Alone.{RunsThrough, IsTurnedAway, EndsPlainly, EndsRefused}
use Rattle.mt_arena.specs.Node.{occupied}
use Rattle.mt_index.specs.Calls.{changing}
use Rattle.mt_index.specs.Stands.{MachineView, Stands}

-- no call is open
abbrev pub IsIdle : MachineView → Type 0
IsIdle s = s.calls.calls ≡ []

-- no put, remove or tidy is open; gets, ranges and builds may be
abbrev pub IsQuiet : MachineView → Type 0
IsQuiet s = changing s.calls.calls ≡ 0

-- a call alone is of pass 0, and has the next number
abbrev pub pass_0 : PassNo
pass_0 = record { 0 = 0 }

abbrev pub next_call : MachineView → CallNo
next_call s = record { 0 = s.calls.begun + 1 }

-- a get makes at most MAX_READS steps for each of the nodes
abbrev pub IsShort : Request → ℕ → ℕ → Type 0
IsShort (Get key asked) nodes steps = steps ≤ MAX_READS * nodes
IsShort _ nodes steps = Unit {0}

-- The call ran from its begin to its end, and nothing else happened; it has answered as a plain map of the rows that
-- there were, and has made the commit that this asks for, or none; a get has made few steps for each node.
pub record AnswersFrom (s : MachineView) (h : History) (request : Request) (reply : Reply)
    (t : MachineView) : Type 0 where
  pub then : History
  pub stands : Stands t then
  pub ran : RunsThrough pass_0 (next_call s) request h (Done reply) then
  pub plain : EndsPlainly s.columns h pass_0 (next_call s) request reply (moment then)
  pub short : IsShort request (occupied s.tree.nodes) (length ran.run.steps + 1)

-- a call that ran until it was refused: a get has made few steps for each node
abbrev pub RanShortly : (s : MachineView) (h : History) (request : Request) (refusal : Refusal) (then : History)
    → IsTurnedAway pass_0 request h refusal then ⊎ RunsThrough pass_0 (next_call s) request h (Refused refusal) then
    → Type 0
RanShortly s h request refusal then (inl turned) = Unit {0}
RanShortly s h request refusal then (inr ran) = IsShort request (occupied s.tree.nodes) (length ran.run.steps + 1)

-- Its begin was refused, or it ran until it was refused; it has changed no rows, commits or views.
pub record RefusesFrom (s : MachineView) (h : History) (request : Request) (refusal : Refusal)
    (t : MachineView) : Type 0 where
  pub then : History
  pub stands : Stands t then
  pub ran : IsTurnedAway pass_0 request h refusal then
      ⊎ RunsThrough pass_0 (next_call s) request h (Refused refusal) then
  pub short : RanShortly s h request refusal then ran
  pub nothing : EndsRefused s.columns h request refusal (moment then)

-- whichever history the machine was at
abbrev pub AnswersPlainly : MachineView → Request → Reply → MachineView → Type 0
AnswersPlainly s request reply t = (h : History) → Stands s h → AnswersFrom s h request reply t

abbrev pub RefusesPlainly : MachineView → Request → Refusal → MachineView → Type 0
RefusesPlainly s request refusal t = (h : History) → Stands s h → RefusesFrom s h request refusal t
