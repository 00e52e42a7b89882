use Rattle.std.proofs.lemmas.Result.{err_from_is_err_and}
use Rattle.mt_wire.specs.Reading.{times_at}
use Rattle.mt_wire.proofs.Loop.{goes_on, is_done}
use Rattle.mt_frame.proofs.Loop.{ends}
use Rattle.mt_frame.proofs.reading.items.Goals as goal

pub returns-in_err-read : goal.returns-in_err-read
returns-in_err-read g c =
    let item = g.T.Readable.reading in
    let p = err_from_is_err_and c.from_residual.result c.from_residual.ensures.1 in
    rw (p.1, p.2) (ends item c.in_err-read.field-0.0 c.loop.items.items c.args.count c.loop.counter c.loop.input (times_at item c.args.count c.args.input.now) c.loop-test.true c.in_err-read.ensures c.loop.invariant)

pub loop-preserved : goal.loop-preserved
loop-preserved g c =
    let item = g.T.Readable.reading in
    rw c.in_ok-push.ensures.items (goes_on item c.loop.items.items c.args.count c.loop.counter c.loop.input c.in_ok-read.field-0 c.read.new.input (times_at item c.args.count c.args.input.now) c.loop-test.true c.in_ok-read.ensures c.loop.invariant)

pub returns : goal.returns
returns g c = is_done g.T.Readable.reading c.loop.items.items c.args.count c.loop.counter c.loop.input (times_at g.T.Readable.reading c.args.count c.args.input.now) c.loop-test.false c.loop.invariant
