use Rattle.std.proofs.Common.{◌∙◌, ap}
use Rattle.mt_view.specs.Views.{ViewsView, state_at}
use Rattle.mt_view.proofs.ViewLemmas.{lookup-state}
use Rattle.mt_view.proofs.views.Views.get.Goals as goal

pub returns : goal.returns
returns c = c.get.ensures.value ∙ lookup-state c.args.number c.self.inside.views.entries ∙ ap (λ (s : ViewsView). state_at c.args.number s.views) c.self.view_is
