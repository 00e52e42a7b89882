-- That each step of a call is one step of its kind, which a history doesn't show.
use Rattle.std.specs.Prelude.{ℕ, ◌≡◌, ◌⊎◌, Some}
use Rattle.mt_types.specs.declared.event.Event.{Event}
use Rattle.mt_types.specs.declared.event.Event.TheVariants.{Step}
use Rattle.mt_types.specs.declared.event.Outcome.{Outcome}
use Rattle.mt_types.specs.declared.event.Outcome.TheVariants.{Again, Moved, Commit, Done, Refused}
use Rattle.mt_steps.specs.declared.progress.Progress.{Progress}
use Rattle.mt_steps.specs.declared.progress.Progress.TheVariants.{Moved as WentOn, Waits, Committed, Answered, Refused as EndsRefused}
use Rattle.mt_works.specs.declared.work.Work.{Work}
use Rattle.mt_works.specs.Works.{IsBuiltWork}
use Rattle.mt_works.specs.Follows.{WorkFollows}
use Rattle.mt_index.specs.declared.calls.Call.{Call}
use Rattle.mt_index.specs.Calls.{call_at}
use Rattle.mt_index.specs.Stands.{MachineView}

-- the call of this number, before and after a step by which it continues
abbrev pub GoesSo : MachineView → ℕ → Progress → MachineView → Type 0
GoesSo s number p t = (before after : Call) → call_at number s.calls.calls ≡ Some before
    → call_at number t.calls.calls ≡ Some after → WorkFollows s.tree s.log before.work p after.work

-- the call of this number, before the step by which it ends; a build that has taken all visits no node in it
abbrev pub EndsSo : MachineView → ℕ → Progress → Type 0
EndsSo s number p = (before : Call) → call_at number s.calls.calls ≡ Some before
    → IsBuiltWork before.work ⊎ ((last : Work) × WorkFollows s.tree s.log before.work p last)

-- A STEP OF A CALL IS ONE STEP OF ITS KIND: it visits one node, of which it reads one field if it is a border on the way
-- of the call; or it takes one delta. The tree before the step determines what it comes to.
abbrev pub IsOneStep : MachineView → Event → Outcome → MachineView → Type 0
IsOneStep s (Step call) Moved t = GoesSo s call.0 WentOn t
IsOneStep s (Step call) Again t = GoesSo s call.0 Waits t
IsOneStep s (Step call) (Commit number) t = GoesSo s call.0 (Committed number) t
IsOneStep s (Step call) (Done reply) t = EndsSo s call.0 (Answered reply.answer)
IsOneStep s (Step call) (Refused refusal) t = EndsSo s call.0 (EndsRefused refusal)
IsOneStep s _ outcome t = Unit {0}
