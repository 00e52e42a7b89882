-- What each legal history says of how large its answers are.
use Rattle.std.specs.Prelude.{ℕ, ◌≡◌, ◌≤◌, [], ◌∷◌, length, None}
use Rattle.mt_types.specs.Limits.{request_fault}
use Rattle.mt_types.specs.Limited.{AnswerIsLimited, OutcomeIsLimited}
use Rattle.mt_types.specs.declared.limits.TheConstants.{MAX_COLUMNS}
use Rattle.mt_types.specs.declared.event.Answer.{Answer}
use Rattle.mt_types.specs.declared.event.Request.{Request}
use Rattle.mt_promise.specs.Alone.{IsPlain}
use Rattle.mt_promise.specs.History.{History, Happening, moment, rows}
use Rattle.mt_promise.specs.Legal.{Legal}

-- if an index has no more columns than it may, each of its outcomes keeps the limits
abbrev pub OutcomesAreLimited : Type 0
OutcomesAreLimited =
    (C : ℕ) (h : Happening) (past : History) → C ≤ MAX_COLUMNS → Legal C (h ∷ past) → OutcomeIsLimited h.outcome

-- and so does each answer of a plain map of its rows to a request that breaks no limit
abbrev pub PlainAnswersAreLimited : Type 0
PlainAnswersAreLimited =
    (C : ℕ) (past : History) (request : Request) (answer : Answer) → C ≤ MAX_COLUMNS → Legal C past
    → request_fault C request ≡ None → IsPlain (rows C (moment past)) (length (moment past).commits) request answer []
    → AnswerIsLimited answer
