use Rattle.std.proofs.Common.{arith}
use Rattle.mt_types.specs.Rows.{shown}
use Rattle.rowanspan_c.proofs.RowRead.{row_most}
use Rattle.rowanspan_c.proofs.placing.row_length.Goals as goal

pub columns_length-requires : goal.columns_length-requires
columns_length-requires c = let most = row_most (shown c.args.asked.now c.args.row.now) c.requires in omega (arith, most)

pub overflow_add-result : goal.overflow_add-result
overflow_add-result c =
    let most = row_most (shown c.args.asked.now c.args.row.now) c.requires in
    let is = c.columns_length.ensures in omega (arith, most, is)
