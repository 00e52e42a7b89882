use Rattle.std.proofs.Common.{◌∙◌, ap, IsSome, subst}
use Rattle.mt_border.specs.Entry.{content_row}
use Rattle.mt_steps.proofs.FoundLemmas.{row_read}
use Rattle.mt_steps.proofs.getting.row_at.Goals as goal

pub unreachable-requires : goal.unreachable-requires
unreachable-requires c =
    let is = row_read c.args.place c.args.border.now.live c.entry.result.now c.entry.ensures.value in
    let none = is ∙ ap content_row c.in-Link.is in
    let some = subst IsSome none c.requires.row in
    cc

pub returns-in-Short : goal.returns-in-Short
returns-in-Short c = row_read c.args.place c.args.border.now.live c.entry.result.now c.entry.ensures.value ∙ ap content_row c.in-Short.is

pub returns-in-Long : goal.returns-in-Long
returns-in-Long c = row_read c.args.place c.args.border.now.live c.entry.result.now c.entry.ensures.value ∙ ap content_row c.in-Long.is
