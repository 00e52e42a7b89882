use Rattle.std.proofs.Common.{Some, ◌∙◌, ap, sym}
use Rattle.std.proofs.lemmas.Result.{IfOk-weaker}
use Rattle.mt_view.specs.Views.{ViewsView, state_at}
use Rattle.mt_view.proofs.ViewLemmas.{lookup-state, never_none}
use Rattle.mt_view.proofs.views.Views.copy_of.Goals as goal

pub unreachable-requires : goal.unreachable-requires
unreachable-requires c = never_none (state_at c.args.number c.args.self.now.views) c.requires
    (sym (c.in-None.ensures.value ∙ lookup-state c.args.number c.self.inside.views.entries ∙ ap (λ (s : ViewsView). state_at c.args.number s.views) c.self.view_is))

pub returns : goal.returns
returns c = IfOk-weaker c.copy.result _ _
    (λ state is. sym (c.in-Some.ensures.value ∙ lookup-state c.args.number c.self.inside.views.entries ∙ ap (λ (s : ViewsView). state_at c.args.number s.views) c.self.view_is) ∙ ap Some (sym is))
    c.copy.ensures
