use Rattle.std.proofs.Common.{◌+◌, ◌-◌, arith, add-one, ◌∙◌}
use Rattle.mt_word.proofs.WordOfLemmas.{own_lowest, own_upper, joined_fields, fields_below, fields_are}
use Rattle.mt_word.proofs.permutation_word.without_field.Goals as goal

pub joined-requires-clause-low_fits : goal.joined-requires-clause-low_fits
joined-requires-clause-low_fits c =
    fields_below _ _ _ c.args.place (own_lowest 15 c.args.places c.args.place c.lowest.result c.requires.fits (omega arith) c.lowest.ensures) (omega arith)

pub joined-requires-clause-high_fits : goal.joined-requires-clause-high_fits
joined-requires-clause-high_fits c =
    fields_below _ _ _ (16 - c.args.place) (own_upper 15 c.args.places (c.args.place + 1) c.above.result c.requires.fits c.above.ensures) (omega arith)

pub returns-clause-value : goal.returns-clause-value
returns-clause-value c =
    let low = own_lowest 15 c.args.places c.args.place c.lowest.result c.requires.fits (omega arith) c.lowest.ensures in
    let high = own_upper 15 c.args.places (c.args.place + 1) c.above.result c.requires.fits c.above.ensures in
    fields_are _ _ 14 (joined_fields _ _ _ _ _ _ 14 c.joined.result low high (omega arith) c.joined.ensures) ∙ rw add-one

pub returns-clause-fits : goal.returns-clause-fits
returns-clause-fits c =
    let low = own_lowest 15 c.args.places c.args.place c.lowest.result c.requires.fits (omega arith) c.lowest.ensures in
    let high = own_upper 15 c.args.places (c.args.place + 1) c.above.result c.requires.fits c.above.ensures in
    fields_below _ _ _ 14 (joined_fields _ _ _ _ _ _ 14 c.joined.result low high (omega arith) c.joined.ensures) (omega arith)
