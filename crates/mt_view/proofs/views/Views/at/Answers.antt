use Rattle.std.proofs.Common.{◌∙◌, Option, Some, ap}
use Rattle.std.specs.Option.{option_map}
use Rattle.mt_view.specs.State.{StateView}
use Rattle.mt_view.specs.Views.{ViewsView, state_at}
use Rattle.mt_view.proofs.ViewLemmas.{lookup-state}
use Rattle.mt_view.proofs.views.Views.at.Goals as goal

pub returns-in-Some : goal.returns-in-Some
returns-in-Some c = ap Some c.at.ensures ∙ ap (λ (o : Option StateView). option_map (λ (s : StateView). s.at) o) (c.in-Some.ensures.value ∙ lookup-state c.args.number c.self.inside.views.entries ∙ ap (λ (s : ViewsView). state_at c.args.number s.views) c.self.view_is)

pub returns-in-None : goal.returns-in-None
returns-in-None c = ap (λ (o : Option StateView). option_map (λ (s : StateView). s.at) o) (c.in-None.ensures.value ∙ lookup-state c.args.number c.self.inside.views.entries ∙ ap (λ (s : ViewsView). state_at c.args.number s.views) c.self.view_is)
