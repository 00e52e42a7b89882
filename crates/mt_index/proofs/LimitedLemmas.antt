-- What an event answers keeps the limits of an index, whichever history the machine is then at.
use Rattle.std.proofs.Common.{ℕ, ◌∷◌}
use Rattle.mt_types.specs.declared.event.Event.{Event}
use Rattle.mt_types.specs.declared.event.Outcome.{Outcome}
use Rattle.mt_types.specs.Limited.{OutcomeIsLimited}
use Rattle.mt_promise.specs.History.{History, happening}
use Rattle.mt_promise.proofs.LimitedLemmas.{outcomes_are_limited}
use Rattle.mt_index.specs.Stands.{MachineView, Stands}

pub outcome-limited : (s : MachineView) (h : History) (e : Event) (o : Outcome) (opens : ℕ) → Stands s (happening e o opens ∷ h) → OutcomeIsLimited o
outcome-limited s h e o opens st = outcomes_are_limited s.columns (happening e o opens) h st.few st.legal
