-- Why a call waits, fails or is refused, and which nodes are freed: what a history doesn't show.
use Rattle.std.specs.Prelude.{ℕ, ◌≡◌, ◌≤◌, ◌<◌, ◌⊎◌, List, length, take, drop, All, Option, Some, None}
use Rattle.mt_types.specs.declared.refusal.Refusal.{Refusal}
use Rattle.mt_types.specs.declared.refusal.Refusal.TheVariants.{NoSuchCall, Spent}
use Rattle.mt_types.specs.declared.event.Event.{Event}
use Rattle.mt_types.specs.declared.event.Event.TheVariants.{Step, Collect}
use Rattle.mt_types.specs.declared.event.Outcome.{Outcome}
use Rattle.mt_types.specs.declared.event.Outcome.TheVariants.{Again, Moved, Freed, Refused}
use Rattle.mt_steps.specs.declared.progress.Progress.TheVariants.{Moved as WentOn, Waits}
use Rattle.mt_steps.specs.Collecting.{GivesBack}
use Rattle.mt_works.specs.Causes.{WorkWaits, WorkFails, WorkRefuses}
use Rattle.mt_types.specs.Numbers.{greatest_number}
use Rattle.mt_works.specs.Works.{IsBuiltWork}
use Rattle.mt_chart.specs.Tree.{Among}
use Rattle.mt_arena.specs.declared.retired.Retired.{Retired}
use Rattle.mt_index.specs.declared.calls.Call.{Call}
use Rattle.mt_index.specs.Calls.{call_at}
use Rattle.mt_index.specs.Stands.{MachineView}

-- the call waits for what is in the tree
abbrev pub WaitsFor : MachineView → Option Call → Type 0
WaitsFor s None = ⊥
WaitsFor s (Some call) = WorkWaits s.tree call.work Waits

-- the call of this number, before and after a step by which it continues: a put or remove fails only for a fault at the
-- node at which it makes ready, or, if there is none, because it is out of memory
abbrev pub FailsFor : MachineView → ℕ → MachineView → Type 0
FailsFor s number t = (before after : Call) → call_at number s.calls.calls ≡ Some before
    → call_at number t.calls.calls ≡ Some after → WorkFails s.tree s.log before.work WentOn after.work

-- no number of a view is left for the build that would open one
abbrev pub SpentFor : MachineView → Call → Refusal → Type 0
SpentFor s call refusal = (refusal ≡ Spent) × (greatest_number ≤ s.views.built) × IsBuiltWork call.work

-- the call is refused for what it had failed for, or because it is out of memory: a put that gives back the half of a
-- split, a get or range at a border, and a build, which may also be refused for the number of its view
abbrev pub RefusedFor : MachineView → Option Call → Refusal → Type 0
RefusedFor s None refusal = refusal ≡ NoSuchCall
RefusedFor s (Some call) refusal = WorkRefuses s.tree call.work refusal ⊎ SpentFor s call refusal

-- each open call began in a later epoch; and one began in that epoch or before
abbrev pub AllBeganAfter : List (ℕ × Call) → Retired → Type 0
AllBeganAfter calls node = (k : ℕ × Call) → Among k calls → node.epoch < k.1.epoch

abbrev pub OneBeganBy : List (ℕ × Call) → Retired → Type 0
OneBeganBy calls node = (k : ℕ × Call) × Among k calls × (k.1.epoch ≤ node.epoch)

-- WHAT A COLLECTION FREES: exactly the retired nodes since whose retiring each open call began, which are the first
-- `count` of those that there are
pub record FreesSo (s : MachineView) (count : ℕ) (t : MachineView) : Type 0 where
  pub few : count ≤ length s.tree.retired
  pub left : GivesBack count s.tree t.tree
  pub freed : All (AllBeganAfter s.calls.calls) (take count s.tree.retired)
  pub kept : All (OneBeganBy s.calls.calls) (drop count s.tree.retired)

-- WHY A CALL WAITS, FAILS OR IS REFUSED, by the machine before the step and after it. It waits only if the node that
-- its step visits is marked deleted; or, for a put or remove, is a border that is locked or, while it posts, an
-- interior that is; or, for a tidy, is the locked border before the one that it unlinks; or, for a get, range, build or
-- tidy that reads fields, is a border that has a flag set or was changed since it began to read it. So no get, range or
-- build waits at a lock, if no flag is set.
abbrev pub IsCaused : MachineView → Event → Outcome → MachineView → Type 0
IsCaused s (Step call) Again t = WaitsFor s (call_at call.0 s.calls.calls)
IsCaused s (Step call) Moved t = FailsFor s call.0 t
IsCaused s (Step call) (Refused refusal) t = RefusedFor s (call_at call.0 s.calls.calls) refusal
IsCaused s Collect (Freed count) t = FreesSo s count t
IsCaused s _ outcome t = Unit {0}
