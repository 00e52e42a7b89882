use Rattle.std.proofs.Common.{◌∙◌, if◌then◌else◌, Bool, None, sym, ap}
use Rattle.std.proofs.lemmas.Bool.{ne_eqb}
use Rattle.std.specs.Option.{option_map}
use Rattle.mt_promise.specs.History.{StandingView, furthest, view_of}
use Rattle.mt_view.specs.Views.{ViewsView, all_standing, state_at}
use Rattle.mt_view.proofs.ViewLemmas.{lookup-state}
use Rattle.mt_view.proofs.StandingLemmas.{view-of-state, view-of-none}
use Rattle.mt_view.proofs.views.Views.meant.Goals as goal

pub returns-in-Some : goal.returns-in-Some
returns-in-Some c = sym (
    ap (λ (t : Bool). option_map (λ (v : StandingView). v.number) (if t then furthest None (all_standing c.args.self.now.views) else view_of c.args.asked (all_standing c.args.self.now.views))) (ne_eqb c.args.asked 0 c.if-asked-eq0.false)
    ∙ ap (option_map (λ (v : StandingView). v.number)) (view-of-state c.args.asked c.args.self.now.views c.in-Some.field-0.now (sym (c.in-Some.ensures.value ∙ lookup-state c.args.asked c.self.inside.views.entries ∙ ap (λ (s : ViewsView). state_at c.args.asked s.views) c.self.view_is))))

pub returns-in-None : goal.returns-in-None
returns-in-None c = sym (
    ap (λ (t : Bool). option_map (λ (v : StandingView). v.number) (if t then furthest None (all_standing c.args.self.now.views) else view_of c.args.asked (all_standing c.args.self.now.views))) (ne_eqb c.args.asked 0 c.if-asked-eq0.false)
    ∙ ap (option_map (λ (v : StandingView). v.number)) (view-of-none c.args.asked c.args.self.now.views (sym (c.in-None.ensures.value ∙ lookup-state c.args.asked c.self.inside.views.entries ∙ ap (λ (s : ViewsView). state_at c.args.asked s.views) c.self.view_is))))
