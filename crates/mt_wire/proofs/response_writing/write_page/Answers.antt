use Rattle.std.proofs.Common.{◌++◌, ◌∷◌}
use Rattle.mt_wire.specs.Spelling.{span_spelling, counted, sum_spelling, pairs_spelling}
use Rattle.mt_wire.proofs.Joined.{written, then_written}
use Rattle.mt_wire.proofs.response_writing.write_page.Goals as goal

pub returns : goal.returns
returns c =
    let page = c.args.page.now in
    let front = 7 ∷ span_spelling page.at page.count in
    let sums = written c.args.out.now.items c.head.new.out.items c.counted.new.out.items front (counted sum_spelling c.as_slice.result.now) c.in_ok-head.ensures c.in_ok-counted.ensures in
    let told = then_written c.write_pairs.result c.args.out.now.items c.counted.new.out.items c.write_pairs.new.out.items (front ++ counted sum_spelling c.as_slice.result.now) (pairs_spelling c.as_slice-2.result.now) sums c.write_pairs.ensures in
    rw (c.as_slice.ensures, c.as_slice-2.ensures) at told
