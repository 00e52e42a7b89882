-- What a call of a map comes to: that of a call alone.
use Rattle.std.specs.Prelude.{ℕ, ◌≡◌, List, Option, Some, None, Result, Ok, Err, IfOk, IfErr, MatchOption}
use Rattle.mt_types.specs.Rows.{Rows}
use Rattle.mt_types.specs.declared.row.Change.{Change}
use Rattle.mt_types.specs.declared.refusal.Refusal.{Refusal}
use Rattle.mt_types.specs.declared.event.Request.{Request}
use Rattle.mt_types.specs.declared.event.Reply.{Reply}
use Rattle.mt_types.specs.declared.event.Answer.{Answer}
use Rattle.mt_types.specs.declared.event.Answer.TheVariants.{Absent, Removed}
use Rattle.mt_types.specs.declared.event.Outcome.TheVariants.{Done, Refused}
use Rattle.mt_promise.specs.Alone.{IsPlain}
use Rattle.mt_index.specs.Alone.{AnswersPlainly, RefusesPlainly}
use Rattle.mt_index.specs.Events.{HappensAlone}
use Rattle.mt_index.specs.Stands.{MachineView, HasBounds, fault_of}

-- the call has this answer: it is that of a plain map, and what happened is the call's begin and its steps
pub record HasAnswer (s : MachineView) (request : Request) (answer : Answer) (t : MachineView) : Type 0 where
  pub reply : Reply
  pub is_its : reply.answer ≡ answer
  pub plainly : AnswersPlainly s request reply t
  pub happens : HappensAlone s request (Done reply) t

-- the call is refused for this, and has changed no row, no commit and no view
pub record HasRefusal (s : MachineView) (request : Request) (refusal : Refusal) (t : MachineView) : Type 0 where
  pub plainly : RefusesPlainly s request refusal t
  pub happens : HappensAlone s request (Refused refusal) t

-- WHAT A CALL OF A MAP CAME TO. If something refuses its begin, such as a limit that the request breaks, it is refused for
-- exactly that.
pub record CameTo (s : MachineView) (request : Request) (result : Result Answer Refusal) (t : MachineView) : Type 0 where
  pub answered : IfOk result (λ answer. HasAnswer s request answer t)
  pub refused : IfErr result (λ refusal. HasRefusal s request refusal t)
  pub fault : MatchOption (fault_of s request) (Unit {0}) (λ refusal. result ≡ Err refusal)
  pub columns : t.columns ≡ s.columns
  pub bounds : HasBounds s.log.capacity s.log.retention t.log

-- a plain map may answer such a request so
pub record IsAnswerTo (request : Request) (answer : Answer) : Type 0 where
  pub map : Rows
  pub commits : ℕ
  pub made : List Change
  pub plain : IsPlain map commits request answer made

-- the answer of which a method returns the part that counts
abbrev pub answered_by : {A : Type 0} → (A → Answer) → Result A Refusal → Result Answer Refusal
answered_by answer (Ok found) = Ok (answer found)
answered_by answer (Err refusal) = Err refusal

-- the answer of a remove: the number of its commit, or that there was nothing to remove
abbrev pub removed_by : Result (Option ℕ) Refusal → Result Answer Refusal
removed_by (Ok (Some commit)) = Ok (Removed commit)
removed_by (Ok None) = Ok Absent
removed_by (Err refusal) = Err refusal
