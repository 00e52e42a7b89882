use Rattle.std.proofs.Common.{subst}
use Rattle.mt_tree.specs.Descent.{IsFoundAt}
use Rattle.mt_border.specs.declared.found.Found.{Found}
use Rattle.mt_write.proofs.StageSteps.{row_there}
use Rattle.mt_write.proofs.ready.other_version.Goals as goal

pub row_at-requires-clause-row : goal.row_at-requires-clause-row
row_at-requires-clause-row c =
    let (rest, stands) = c.requires in
    let there = subst (λ (f : Found). IsFoundAt rest c.args.border.now.live f) c.in-Row.is stands in
    (row_there c.args.border.now.live c.in-Row.place there.entry there.stands there.row).1
