use Rattle.std.proofs.Common.{◌∙◌, ap}
use Rattle.mt_index.specs.Stands.{MachineView}
use Rattle.mt_index.proofs.MachineLemmas.{lists_views}
use Rattle.mt_index.proofs.machine.Machine.views.Goals as goal

pub returns-clause-exact : goal.returns-clause-exact
returns-clause-exact c = λ h st. lists_views c.args.self.now h st c.iter.result (c.iter.ensures.rest ∙ ap (λ (s : MachineView). s.views.views) c.self.view_is)
