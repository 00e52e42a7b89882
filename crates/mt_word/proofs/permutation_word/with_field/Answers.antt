use Rattle.std.proofs.Common.{◌-◌, arith}
use Rattle.mt_word.proofs.WordOfLemmas.{one_field, own_lowest, own_upper, joined_fields, fields_below, fields_are}
use Rattle.mt_word.proofs.permutation_word.with_field.Goals as goal

pub joined-requires-clause-low_fits : goal.joined-requires-clause-low_fits
joined-requires-clause-low_fits c =
    fields_below _ _ _ c.args.place (own_lowest 14 c.args.places c.args.place c.lowest.result c.requires.fits (omega arith) c.lowest.ensures) (omega arith)

pub joined-from_place-requires-clause-high_fits : goal.joined-from_place-requires-clause-high_fits
joined-from_place-requires-clause-high_fits c =
    fields_below _ _ _ 15 (own_upper 14 c.args.places c.args.place c.above.result c.requires.fits c.above.ensures) (omega arith)

pub joined-requires-clause-high_fits : goal.joined-requires-clause-high_fits
joined-requires-clause-high_fits c =
    let upper = own_upper 14 c.args.places c.args.place c.above.result c.requires.fits c.above.ensures in
    let from = joined_fields _ _ _ _ 1 _ (15 - c.args.place) c.joined-from_place.result (one_field c.args.field c.requires.field_fits) upper (omega arith) c.joined-from_place.ensures in
    fields_below _ _ _ (16 - c.args.place) from (omega arith)

pub returns-clause-value : goal.returns-clause-value
returns-clause-value c =
    let low = own_lowest 14 c.args.places c.args.place c.lowest.result c.requires.fits (omega arith) c.lowest.ensures in
    let upper = own_upper 14 c.args.places c.args.place c.above.result c.requires.fits c.above.ensures in
    let from = joined_fields _ _ _ _ 1 _ (15 - c.args.place) c.joined-from_place.result (one_field c.args.field c.requires.field_fits) upper (omega arith) c.joined-from_place.ensures in
    fields_are _ _ 15 (joined_fields _ _ _ _ _ _ 15 c.joined.result low from (omega arith) c.joined.ensures)

pub returns-clause-fits : goal.returns-clause-fits
returns-clause-fits c =
    let low = own_lowest 14 c.args.places c.args.place c.lowest.result c.requires.fits (omega arith) c.lowest.ensures in
    let upper = own_upper 14 c.args.places c.args.place c.above.result c.requires.fits c.above.ensures in
    let from = joined_fields _ _ _ _ 1 _ (15 - c.args.place) c.joined-from_place.result (one_field c.args.field c.requires.field_fits) upper (omega arith) c.joined-from_place.ensures in
    fields_below _ _ _ 15 (joined_fields _ _ _ _ _ _ 15 c.joined.result low from (omega arith) c.joined.ensures) (omega arith)
