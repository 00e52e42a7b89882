use Rattle.std.proofs.Common.{◌++◌, ◌∷◌}
use Rattle.std.specs.Int.{w16, to_be_bytes}
use Rattle.mt_wire.specs.Spelling.{span_spelling, key_spelling}
use Rattle.mt_wire.proofs.Joined.{written, then_written}
use Rattle.mt_wire.proofs.query_writing.QueryWritable.write.Goals as goal

pub returns-in_ok-key-in-ViewRead : goal.returns-in_ok-key-in-ViewRead
returns-in_ok-key-in-ViewRead c =
    let read = c.in-ViewRead in
    let front = 7 ∷ span_spelling read.view.0 read.floor in
    let starts = written c.args.out.now.items c.head.new.out.items c.key.new.out.items front (key_spelling c.deref.result.now) c.in_ok-head-in-ViewRead.ensures c.in_ok-key-in-ViewRead.ensures in
    rw c.in-ViewRead.is (rw c.deref.ensures at (then_written c.number16.result c.args.out.now.items c.key.new.out.items c.number16.new.out.items (front ++ key_spelling c.deref.result.now) (to_be_bytes w16 read.limit) starts c.number16.ensures))
