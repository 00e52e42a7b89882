use Rattle.std.proofs.Common.{◌<◌, length, sym, ◌∙◌, arith}
use Rattle.mt_border.proofs.FindLemmas.{found_at_place, absent_at_place}
use Rattle.mt_border.proofs.border.Border.find.Goals as goal

pub returns-then-stands_at-clause-value : goal.returns-then-stands_at-clause-value
returns-then-stands_at-clause-value c =
    let within : c.place_of-place.result < length c.args.self.now.live = omega arith in
    c.found_content.ensures ∙ found_at_place c.args.slice c.args.class c.args.suffix.now c.args.self.now.live c.number-number.result c.place_of-place.result c.entry-entry.result.now c.number-number.ensures.value c.place_of-place.ensures.value within c.entry-entry.ensures.value (sym c.stands_at.ensures ∙ c.if-stands_at.true)

pub returns-else-stands_at-clause-value : goal.returns-else-stands_at-clause-value
returns-else-stands_at-clause-value c =
    let within : c.place_of-place.result < length c.args.self.now.live = omega arith in
    absent_at_place c.args.slice c.args.class c.args.suffix.now c.args.self.now.live c.number-number.result c.place_of-place.result c.entry-entry.result.now c.number-number.ensures.value c.place_of-place.ensures.value within c.entry-entry.ensures.value (sym c.stands_at.ensures ∙ c.if-stands_at.false)
