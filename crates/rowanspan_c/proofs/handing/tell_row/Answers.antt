use Rattle.mt_types.specs.Rows.{shown}
use Rattle.rowanspan_c.specs.Spelling.{row_spelling}
use Rattle.rowanspan_c.proofs.Placed.{handed_out}
use Rattle.rowanspan_c.proofs.handing.tell_row.Goals as goal

pub returns : goal.returns
returns c =
    handed_out (row_spelling (shown c.args.asked.now c.args.row.now)) c.args.into.now c.row-end.new.into c.row_length-length.result c.row-end.result c.row_length-length.ensures c.if-length-into.false c.row-end.ensures
