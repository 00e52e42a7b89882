use Rattle.std.proofs.Common.{◌∙◌, ap, sym}
use Rattle.std.proofs.lemmas.Result.{IfOk-weaker}
use Rattle.mt_view.specs.State.{StateView, page_of_state}
use Rattle.mt_view.specs.Views.{ViewsView, state_at}
use Rattle.mt_view.proofs.ViewLemmas.{lookup-state, never_none, same_state}
use Rattle.mt_view.proofs.views.Views.read.Goals as goal

pub unreachable-requires : goal.unreachable-requires
unreachable-requires c = never_none (state_at c.args.number c.args.self.now.views) c.requires
    (sym (c.in-None.ensures.value ∙ lookup-state c.args.number c.self.inside.views.entries ∙ ap (λ (s : ViewsView). state_at c.args.number s.views) c.self.view_is))

pub returns : goal.returns
returns c = IfOk-weaker c.read.result _ _
    (λ page is state at. is ∙ ap (λ (s : StateView). page_of_state s c.args.start.now c.args.limit) (same_state c.in-Some.state.now state
    (c.in-Some.ensures.value ∙ lookup-state c.args.number c.self.inside.views.entries ∙ ap (λ (s : ViewsView). state_at c.args.number s.views) c.self.view_is) at))
    c.read.ensures
