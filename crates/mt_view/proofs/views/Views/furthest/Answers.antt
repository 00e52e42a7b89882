use Rattle.std.proofs.Common.{ℕ, Option, None, ap, subst, sym, ◌∙◌}
use Rattle.std.specs.Option.{option_map}
use Rattle.mt_promise.specs.History.{StandingView, furthest}
use Rattle.mt_view.specs.Views.{ViewsView, all_standing}
use Rattle.mt_view.proofs.ViewLemmas.{Entries}
use Rattle.mt_view.proofs.StandingLemmas.{AllAfter, furthest-is}
use Rattle.mt_view.proofs.QueueLemmas.{turn-stands, after-least, empty-queue}
use Rattle.mt_view.proofs.views.Views.furthest.Goals as goal

abbrev number_of : Option StandingView → Option ℕ
number_of = option_map (λ (v : StandingView). v.number)

pub returns-in-Some : goal.returns-in-Some
returns-in-Some c =
    let turn = c.in-Some.field-0.now in
    let vs = c.self.inside.views.entries in
    let stands = turn-stands turn.0 turn.1 vs c.self.inside.queue c.self.invariant.queued c.in-Some.ensures.member in
    let after = after-least turn.0 turn.1 vs c.self.inside.queue c.self.invariant.queued c.in-Some.ensures.least in
    sym (ap (λ (s : ViewsView). number_of (furthest None (all_standing s.views))) (sym c.self.view_is)
    ∙ ap number_of (furthest-is turn.1 0 c.self.inside.built stands.0 None vs c.self.invariant.rises stands.1 (subst (λ (at : ℕ). AllAfter at turn.1 vs) (sym stands.2) after) tt))

pub returns-in-None : goal.returns-in-None
returns-in-None c =
    let none = empty-queue c.self.inside.views.entries c.self.inside.queue c.self.invariant.queued (λ some. let clash = c.in-None.ensures.variant.1 some in cc) in
    sym (ap (λ (s : ViewsView). number_of (furthest None (all_standing s.views))) (sym c.self.view_is) ∙ ap (λ (vs : Entries). number_of (furthest None (all_standing vs))) none)
