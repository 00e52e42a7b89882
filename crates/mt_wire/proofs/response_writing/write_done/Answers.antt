use Rattle.std.proofs.Common.{◌∷◌}
use Rattle.std.specs.Int.{w64, to_be_bytes}
use Rattle.mt_wire.specs.Spelling.{row_spelling, span_spelling}
use Rattle.mt_wire.proofs.Joined.{then_written}
use Rattle.mt_wire.proofs.response_writing.write_done.Goals as goal

pub returns-in_ok-head-in-Found : goal.returns-in_ok-head-in-Found
returns-in_ok-head-in-Found c = rw c.in-Found.is (
    then_written c.write_row.result c.args.out.now.items c.head-in-Found.new.out.items c.write_row.new.out.items (2 ∷ span_spelling c.args.from c.args.to) (row_spelling c.in-Found.row) c.in_ok-head-in-Found.ensures c.write_row.ensures)

pub returns-in_ok-head-in-Committed : goal.returns-in_ok-head-in-Committed
returns-in_ok-head-in-Committed c = rw c.in-Committed.is (
    then_written c.number64.result c.args.out.now.items c.head-in-Committed.new.out.items c.number64.new.out.items (3 ∷ span_spelling c.args.from c.args.to) (to_be_bytes w64 c.in-Committed.number) c.in_ok-head-in-Committed.ensures c.number64.ensures)

pub returns-in_ok-head-in-Built : goal.returns-in_ok-head-in-Built
returns-in_ok-head-in-Built c = rw c.in-Built.is (
    then_written c.number64-in-Built.result c.args.out.now.items c.head-in-Built.new.out.items c.number64-in-Built.new.out.items (6 ∷ span_spelling c.args.from c.args.to) (to_be_bytes w64 c.in-Built.view.0) c.in_ok-head-in-Built.ensures c.number64-in-Built.ensures)
