use Rattle.std.proofs.Common.{[]}
use Rattle.rowanspan_c.specs.Spelling.{totals_spelling}
use Rattle.mt_view.specs.State.{page_of_state}
use Rattle.rowanspan_c.proofs.Placed.{handed_out}
use Rattle.rowanspan_c.proofs.totals.tell_totals.Goals as goal

pub returns : goal.returns
returns c =
    handed_out (totals_spelling (page_of_state c.args.state.now [] 1)) c.args.into.now c.totals_of-end.new.into c.totals_length-length.result c.totals_of-end.result (c.totals_length-length.ensures c.args.state.now c.requires) c.if-length-into.false c.totals_of-end.ensures
