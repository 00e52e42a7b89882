use Rattle.std.proofs.Common.{◌<◌, arith}
use Rattle.std.specs.FinMap.{entries}
use Rattle.rowanspan_c.proofs.TotalsRead.{sum_written, sums_length}
use Rattle.rowanspan_c.proofs.totals.sums.Goals as goal

pub sum-at-requires : goal.sum-at-requires
sum-at-requires c =
    let inside : c.loop-column.column < c.args.columns = omega (arith, c.loop-column-test.true) in
    let so_far = sums_length 0 c.loop-column.column (entries c.args.state.now.rows) in
    let before = c.loop-column.invariant in
    let room = c.requires.room in omega (arith, inside, so_far, before.0, before.3, room)

pub loop-column-preserved : goal.loop-column-preserved
loop-column-preserved c =
    sum_written c.loop-column.column c.sum.result (entries c.args.state.now.rows) c.args.into.now c.loop-column.into c.sum-at.new.into c.args.from c.loop-column.at c.sum-at.result c.sum.ensures.value c.loop-column.invariant c.sum-at.ensures
