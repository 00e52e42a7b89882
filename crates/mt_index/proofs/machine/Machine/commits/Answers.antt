use Rattle.std.proofs.Common.{◌∙◌, ap}
use Rattle.mt_commit.specs.Log.{newest}
use Rattle.mt_index.specs.Stands.{MachineView}
use Rattle.mt_index.proofs.machine.Machine.commits.Goals as goal

pub returns-clause-told : goal.returns-clause-told
returns-clause-told c = λ h st. c.number.ensures.value ∙ ap (λ (s : MachineView). newest s.log) c.self.view_is ∙ st.commits
