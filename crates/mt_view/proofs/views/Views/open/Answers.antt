use Rattle.std.proofs.Common.{◌+◌, ◌-◌, ◌<◌, ◌++◌, ◌∷◌, [], length, true, arith, ◌∙◌, ap, sym, subst}
use Rattle.std.proofs.lemmas.List.{length-append}
use Rattle.mt_view.specs.Views.{ViewsView, Rises}
use Rattle.mt_view.specs.ViewsFields.{IsQueueOf, stands_at}
use Rattle.mt_view.proofs.ViewLemmas.{Entries, insert-view, rises-append}
use Rattle.mt_view.proofs.QueueLemmas.{absent-above, queue-opened, queue-undone, turn-is}
use Rattle.mt_view.proofs.views.Views.open.Goals as goal

pub invariant_of-self-in-Err : goal.invariant_of-self-in-Err
invariant_of-self-in-Err c =
    let vs = c.self.inside.views.entries in
    let number = c.self.inside.built + 1 in
    let same = c.in-Err.ensures.err in
    let few = c.self.invariant.few in
    let as_many = ap (λ (l : Entries). length l) same in
    let free = ap (stands_at c.at.result) (absent-above number 0 c.self.inside.built vs (omega arith) c.self.invariant.rises) in
    record {
      rises = subst (λ (l : Entries). Rises 0 c.self.inside.built l) (sym same) c.self.invariant.rises;
      few = omega (arith, few, as_many);
      queued = subst (λ (l : Entries). IsQueueOf l c.remove.new.self) (sym same)
          (queue-undone c.at.result number vs c.self.inside.queue c.insert.new.self c.remove.new.self free c.self.invariant.queued c.in_ok-insert.ensures.updates c.remove.ensures.updates);
    }

pub invariant_of-self-2 : goal.invariant_of-self-2
invariant_of-self-2 c =
    let vs = c.self.inside.views.entries in
    let number = c.self.inside.built + 1 in
    let more = c.in_default.ensures.entries ∙ insert-view 0 c.self.inside.built number c.args.state vs (omega arith) c.self.invariant.rises in
    let few = c.self.invariant.few in
    let longer = ap (λ (l : Entries). length l) more ∙ length-append vs ((number, c.args.state) ∷ []) in
    let some : 0 < c.self.inside.building = subst (λ (s : ViewsView). 0 < s.building) (sym c.self.view_is) c.requires in
    let put = turn-is c.at.result c.args.state.at number true c.self.inside.queue c.insert.new.self c.at.ensures c.in_ok-insert.ensures.updates in
    record {
      rises = subst (λ (l : Entries). Rises 0 number l) (sym more) (rises-append 0 c.self.inside.built c.args.state vs c.self.invariant.rises);
      few = omega (arith, few, longer, some);
      queued = subst (λ (l : Entries). IsQueueOf l c.insert.new.self) (sym more)
          (queue-opened number 0 c.self.inside.built c.args.state vs c.self.inside.queue c.insert.new.self (omega arith) c.self.invariant.rises c.self.invariant.queued put);
    }

pub returns-clause-ok : goal.returns-clause-ok
returns-clause-ok c =
    ap (λ (l : Entries). record { built = c.self.inside.built + 1; building = c.self.inside.building - 1; views = l })
    (c.in_default.ensures.entries ∙ insert-view 0 c.self.inside.built (c.self.inside.built + 1) c.args.state c.self.inside.views.entries (omega arith) c.self.invariant.rises)
    ∙ ap (λ (s : ViewsView). record { built = s.built + 1; building = s.building - 1; views = s.views ++ (s.built + 1, c.args.state) ∷ [] }) c.self.view_is
