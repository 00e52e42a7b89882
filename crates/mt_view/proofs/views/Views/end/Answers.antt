use Rattle.std.proofs.Common.{length, arith, ◌∙◌, ap, false, sym, subst}
use Rattle.mt_view.specs.Views.{ViewsView, Rises, without}
use Rattle.mt_view.specs.ViewsFields.{IsQueueOf}
use Rattle.mt_view.proofs.ViewLemmas.{Entries, lookup-state, remove-view, rises-without, fewer-without}
use Rattle.mt_view.proofs.QueueLemmas.{queue-ended, turn-is}
use Rattle.mt_view.proofs.views.Views.end.Goals as goal

pub invariant_of-self : goal.invariant_of-self
invariant_of-self c =
    let vs = c.self.inside.views.entries in
    let left = c.remove.ensures.entries ∙ remove-view c.args.number 0 c.self.inside.built vs c.self.invariant.rises in
    let few = c.self.invariant.few in
    let fewer = fewer-without c.args.number vs in
    let as_many = ap (λ (l : Entries). length l) left in
    let found = sym (c.in-Some.ensures.value ∙ lookup-state c.args.number vs) in
    let out = turn-is c.at.result c.in-Some.state.at c.args.number false c.self.inside.queue c.remove-in-Some.new.self c.at.ensures c.remove-in-Some.ensures.updates in
    record {
      rises = subst (λ (l : Entries). Rises 0 c.self.inside.built l) (sym left) (rises-without c.args.number 0 c.self.inside.built vs c.self.invariant.rises);
      few = omega (arith, few, fewer, as_many);
      queued = subst (λ (l : Entries). IsQueueOf l c.remove-in-Some.new.self) (sym left)
          (queue-ended c.args.number c.in-Some.state vs c.self.inside.queue c.remove-in-Some.new.self found c.self.invariant.queued out);
    }

pub returns-in-Some : goal.returns-in-Some
returns-in-Some c =
    ap (λ (l : Entries). record { built = c.self.inside.built; building = c.self.inside.building; views = l }) (c.remove.ensures.entries ∙ remove-view c.args.number 0 c.self.inside.built c.self.inside.views.entries c.self.invariant.rises)
    ∙ ap (λ (s : ViewsView). record s { views = without c.args.number s.views }) c.self.view_is

pub returns-in_default : goal.returns-in_default
returns-in_default c =
    ap (λ (l : Entries). record { built = c.self.inside.built; building = c.self.inside.building; views = l }) (c.remove.ensures.entries ∙ remove-view c.args.number 0 c.self.inside.built c.self.inside.views.entries c.self.invariant.rises)
    ∙ ap (λ (s : ViewsView). record s { views = without c.args.number s.views }) c.self.view_is
