-- That a step of a call changes at most one node, and of a border at most one field.
use Rattle.std.specs.Prelude.{ℕ, Option, Some, None}
use Rattle.mt_types.specs.declared.event.Event.{Event}
use Rattle.mt_types.specs.declared.event.Event.TheVariants.{Step}
use Rattle.mt_types.specs.declared.event.Outcome.{Outcome}
use Rattle.mt_types.specs.declared.event.Outcome.TheVariants.{Commit}
use Rattle.mt_promise.specs.History.{History}
use Rattle.mt_steps.specs.OneNode.{ChangesOneNode}
use Rattle.mt_index.specs.Stands.{MachineView, Stands}

-- the number of the commit that an outcome is, if it is one
abbrev pub commit_in : Outcome → Option ℕ
commit_in (Commit number) = Some number
commit_in _ = None

-- A STEP CHANGES ONE NODE AT MOST, and of a border one field, whichever history the machine is at. A step whose outcome
-- is a commit may show a row, and writes the commit's number into it in the same step.
abbrev pub IsOneField : MachineView → Event → Outcome → MachineView → Type 0
IsOneField s (Step call) outcome t = (h : History) (at : Stands s h)
    → ChangesOneNode (commit_in outcome) at.w.chart s.tree t.tree
IsOneField s _ outcome t = Unit {0}
