use Rattle.std.proofs.Common.{◌<◌, [], length, ap, arith}
use Rattle.std.proofs.lemmas.List.Folds.{length-flat_map-take}
use Rattle.mt_types.specs.Rows.{chosen}
use Rattle.rowanspan_c.specs.Spelling.{bytes_spelling}
use Rattle.rowanspan_c.proofs.placing.columns_length.Goals as goal

pub overflow_add-length-in-loop-place : goal.overflow_add-length-in-loop-place
overflow_add-length-in-loop-place c =
    let shown = chosen c.args.asked.now c.args.columns.now in
    let inside : c.loop-place.place < length shown = omega (arith, c.loop-place-test.true, c.count-place-end.ensures) in
    let among = length-flat_map-take bytes_spelling shown c.loop-place.place [] inside in
    let same = ap length c.column.ensures in
    let so_far = c.loop-place.invariant in
    let few = c.requires in omega (arith, among, same, so_far, few)
