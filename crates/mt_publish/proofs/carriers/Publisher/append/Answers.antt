use Rattle.std.proofs.Common.{ap, sym, ◌∙◌, ◌++◌, drop}
use Rattle.mt_publish.specs.Shown.{deltas_in}
use Rattle.mt_publish.proofs.Kept.{one_more}
use Rattle.mt_publish.proofs.carriers.Publisher.append.Goals as goal

pub invariant_of-self-2-clause-whole : goal.invariant_of-self-2-clause-whole
invariant_of-self-2-clause-whole g c w =
    let added = c.add.ensures.list w in let was = c.args.self.now.whole added.0 in let pushed = c.in_ok-push.ensures in
    let steps = drop c.args.self.now.writer.behind c.args.self.now.writer.log.items in
    let list = c.push.new.writer.desk.shown.value.mark.list in
    one_more list _ _ steps _ _ _ (was ∙ ap (λ d. d.shown.value.mark.list ++ deltas_in steps) (sym pushed.desk)) added.1 pushed.pending c.in_ok-copied.ensures
