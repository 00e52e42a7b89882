use Rattle.std.proofs.Common.{◌<◌, [], length, ℕ, List, ap, subst, arith}
use Rattle.mt_types.specs.Rows.{chosen}
use Rattle.rowanspan_c.specs.Spelling.{bytes_spelling}
use Rattle.rowanspan_c.specs.Placed.{Writes}
use Rattle.rowanspan_c.proofs.Placed.{has_room, writes_more}
use Rattle.rowanspan_c.proofs.placing.each.Goals as goal

pub counted-at-requires : goal.counted-at-requires
counted-at-requires c =
    let shown = chosen c.args.asked.now c.args.columns.now in
    let inside : c.loop-place.place < length shown = omega (arith, c.loop-place-test.true, c.count-place-end.ensures) in
    let room = has_room bytes_spelling shown c.loop-place.place [] c.args.into.now c.loop-place.into c.args.from c.loop-place.at inside c.requires c.loop-place.invariant in
    let same = ap length c.column.ensures in
    omega (arith, room, same)

pub loop-place-preserved : goal.loop-place-preserved
loop-place-preserved c =
    let shown = chosen c.args.asked.now c.args.columns.now in
    let inside : c.loop-place.place < length shown = omega (arith, c.loop-place-test.true, c.count-place-end.ensures) in
    writes_more bytes_spelling shown c.loop-place.place [] c.args.into.now c.loop-place.into c.counted-at.new.into c.args.from c.loop-place.at c.counted-at.result inside c.loop-place.invariant
    (subst (λ (bytes : List ℕ). Writes (bytes_spelling bytes) c.loop-place.at c.loop-place.into c.counted-at.new.into c.counted-at.result) c.column.ensures c.counted-at.ensures)
