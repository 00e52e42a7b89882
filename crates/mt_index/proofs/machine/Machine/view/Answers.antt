use Rattle.std.proofs.Common.{◌∙◌, ◌≡◌, ℕ, Option, Some, None, ap, sym}
use Rattle.std.specs.Prelude.{IfSome}
use Rattle.std.specs.Option.{option_copied}
use Rattle.mt_promise.specs.History.{History, moment}
use Rattle.mt_view.specs.State.{StateView}
use Rattle.mt_view.specs.Views.{state_at}
use Rattle.mt_index.specs.Stands.{MachineView, Stands}
use Rattle.mt_index.specs.Viewing.{CopiesView}
use Rattle.mt_index.proofs.MachineLemmas.{copies_view}
use Rattle.mt_index.proofs.machine.Machine.view.Goals as goal

exact_if : (s : MachineView) (number : ℕ) (found : Option StateView) → found ≡ state_at number s.views.views → IfSome found (λ state. (h : History) → Stands s h → CopiesView s.columns (moment h) number state)
exact_if s number None is = tt
exact_if s number (Some state) is = λ h st. copies_view s h st number state (sym is)

pub returns-clause-exact : goal.returns-clause-exact
returns-clause-exact c = exact_if c.args.self.now c.args.view.0 (option_copied c.get.result) (c.get.ensures ∙ ap (λ (s : MachineView). state_at c.args.view.0 s.views.views) c.self.view_is)
