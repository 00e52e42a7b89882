use Rattle.std.proofs.Common.{Some, ◌≡◌, subst}
use Rattle.mt_view.specs.Views.{state_at}
use Rattle.mt_index.specs.Stands.{MachineView}
use Rattle.mt_index.proofs.MachineLemmas.{copies_view}
use Rattle.mt_index.proofs.machine.Machine.view_copy.Goals as goal

pub returns-clause-exact : goal.returns-clause-exact
returns-clause-exact c = λ h st.
    copies_view c.args.self.now h st c.args.view.0 c.in_ok-state.state
    (subst (λ (s : MachineView). state_at c.args.view.0 s.views.views ≡ Some c.in_ok-state.state) c.self.view_is c.in_ok-state.ensures)
