use Rattle.std.proofs.Common.{ap, subst}
use Rattle.mt_index.specs.Stands.{MachineView, ReadsView}
use Rattle.mt_index.specs.Viewing.{page_outcome}
use Rattle.mt_map.specs.Tidies.{MapView}
use Rattle.mt_map.proofs.MapLemmas.{pages_floor, pages_show}
use Rattle.mt_map.proofs.map.Map.page.Goals as goal

pub returns-clause-exact : goal.returns-clause-exact
returns-clause-exact c =
    pages_show c.args.self.now.machine c.args.view.0 c.args.floor c.args.start.now c.args.limit c.page_from.result c.states_show_pages.ensures
    (subst (λ (m : MachineView). ReadsView m c.args.view.0 c.args.floor c.args.start.now c.args.limit (page_outcome c.page_from.result)) (ap (λ (v : MapView). v.machine) c.self.view_is) c.page_from.ensures)

pub returns-clause-floor : goal.returns-clause-floor
returns-clause-floor c =
    pages_floor c.args.self.now.machine c.args.view.0 c.args.floor c.args.start.now c.args.limit c.page_from.result
    (subst (λ (m : MachineView). ReadsView m c.args.view.0 c.args.floor c.args.start.now c.args.limit (page_outcome c.page_from.result)) (ap (λ (v : MapView). v.machine) c.self.view_is) c.page_from.ensures)
