use Rattle.std.proofs.Common.{drop, sym, ap, ◌∙◌, ◌++◌, subst, Some}
use Rattle.mt_publish.specs.Rule.{source_in}
use Rattle.mt_publish.specs.Shown.{deltas_in}
use Rattle.mt_publish.specs.Folds.{last_number}
use Rattle.mt_publish.proofs.Pages.{at_after}
use Rattle.mt_publish.proofs.Kept.{publishes, published, ok_of, AreMarked, IsPublished}
use Rattle.mt_publish.proofs.carriers.Publisher.into_publish.Goals as goal
use Rattle.mt_publish.proofs.carriers.Publisher.into_publish.Goals.{After-into_parts-writer, In-Ok}

-- what is pending ends with its mark, in the writer that was taken out
marked : (g : _) (c : After-into_parts-writer g) → let w = c.into_parts-writer.result.0 in AreMarked w.desk.shown.value (drop w.behind w.log.items) c.requires.0
marked g c =
    subst (λ z. AreMarked z.desk.shown.value (drop z.behind z.log.items) c.requires.0) (sym c.into_parts-writer.ensures.writer) c.requires.1

-- what is shown where the publish succeeded
shown : (g : _) (c : In-Ok g)
    → let w = c.into_parts-writer.result.0 in let now = c.publish_as-writer.result.0 in
    IsPublished w.desk.shown.value now.desk.shown.value (drop w.behind w.log.items) (drop now.behind now.log.items)
shown g c =
    let w = c.into_parts-writer.result.0 in let made = c.publish_as-writer in let now = made.result.0 in
    let there = marked g (goal.at.In-Ok g c).After-into_parts-writer in
    published w.desk.shown.value now.desk.shown.value (drop w.behind w.log.items) c.requires.0 (drop now.behind now.log.items) there
    (ok_of made.result.1 c.in-Ok.field-0 _ _ c.in-Ok.is made.ensures.values)

pub publish_as-writer-requires : goal.publish_as-writer-requires
publish_as-writer-requires g c next is =
    let w = c.into_parts-writer.result.0 in
    publishes (drop w.behind w.log.items) c.requires.0 _ _ w.desk.shown.value next (marked g (goal.at.publish_as-writer-requires g c).After-into_parts-writer) is

pub invariant_of-publisher : goal.invariant_of-publisher
invariant_of-publisher g c =
    let out = shown g (goal.at.invariant_of-publisher g c).In-Ok in let had = c.into_parts-writer.ensures in let made = c.publish_as-writer in
    let rule = ok_of made.result.1 c.in-Ok.field-0 _ _ c.in-Ok.is made.ensures.rule in
    record {
      opened = ap (λ v. source_in v.opening) rule ∙ (had.opened ∙ ap Some (sym out.source));
      sourced = had.sourced ∙ sym out.source;
      whole = λ t. had.whole t ∙ sym out.whole;
    }

pub returns-in-Ok-clause-list : goal.returns-in-Ok-clause-list
returns-in-Ok-clause-list g c =
    let out = shown g (goal.at.returns-in-Ok-clause-list g c).In-Ok in
    (out.list ∙ ap (λ z. z.desk.shown.value.mark.list ++ deltas_in (drop z.behind z.log.items)) c.into_parts-writer.ensures.writer, ap deltas_in out.none)

pub returns-in-Ok-clause-number : goal.returns-in-Ok-clause-number
returns-in-Ok-clause-number g c =
    let out = shown g (goal.at.returns-in-Ok-clause-number g c).In-Ok in let w = c.into_parts-writer.result.0 in
    ap (λ s. s.at) out.state ∙ (at_after w.desk.shown.value.state (deltas_in (drop w.behind w.log.items))
    ∙ ap (λ z. last_number z.desk.shown.value.state.at (deltas_in (drop z.behind z.log.items))) c.into_parts-writer.ensures.writer)
