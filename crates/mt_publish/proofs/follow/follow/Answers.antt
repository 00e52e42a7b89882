use Rattle.std.proofs.Common.{rules, ◌≡◌, ◌++◌, List, Ok, ap, ◌∙◌, subst, append_assoc}
use Rattle.mt_types.specs.declared.row.Delta.{Delta}
use Rattle.mt_shared.specs.Feeds.{FeedsSomewhere}
use Rattle.mt_publish.specs.Carried.{list_of, pending_of}
use Rattle.mt_publish.proofs.follow.follow.Goals as goal

pub returns-clause-follows : goal.returns-clause-follows
returns-clause-follows g c =
    let first = c.in_ok-publish.ensures in let added = c.in_ok-append_all.ensures in let last = c.in_ok-publish-2.ensures in
    let from = c.at.ensures ∙ first.number in
    let fed = subst (λ r. FeedsSomewhere c.at.result c.args.most r) c.in_ok-deltas.was c.feed.ensures in
    let before : list_of c.append_all.new.publisher ≡ list_of c.args.publisher.now ++ pending_of c.args.publisher.now = added.kept.1 ∙ first.list.0 in
    let pending : pending_of c.append_all.new.publisher ≡ c.in_ok-deltas.deltas.items = added.pending ∙ (ap (λ (z : List Delta). z ++ c.deref.result.now) first.list.1 ∙ c.deref.ensures.value) in
    record {
      deltas = c.in_ok-deltas.deltas;
      fed = subst (λ n. FeedsSomewhere n c.args.most (Ok c.in_ok-deltas.deltas)) from fed;
      list = last.list.0 ∙ (ap (λ (z : List Delta). z ++ pending_of c.append_all.new.publisher) before ∙ ap (λ (z : List Delta). (list_of c.args.publisher.now ++ pending_of c.args.publisher.now) ++ z) pending);
      many = search rules;
    }

pub returns-clause-later : goal.returns-clause-later
returns-clause-later g c =
    let all = returns-clause-follows g c in
    (pending_of c.args.publisher.now ++ all.deltas.items, all.list ∙ append_assoc (list_of c.args.publisher.now) (pending_of c.args.publisher.now) all.deltas.items)
