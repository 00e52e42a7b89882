use Rattle.std.proofs.Common.{arith}
use Rattle.mt_check.proofs.CallLemmas.{read_rise, tells_range}
use Rattle.mt_check.proofs.calls.gives.Goals as goal

pub walk-requires : goal.walk-requires
walk-requires c = read_rise c.args.log.now.deltas.now c.args.log.now.versions c.requires.read

pub returns : goal.returns
returns c =
    tells_range c.args.log.now.deltas.now c.args.log.now.versions c.args.span.from c.args.span.to c.args.start.now c.in_ok-start.start c.args.columns.now c.args.limit c.args.pairs.now c.walk.result
    c.requires.read c.requires.rises c.in_ok-start.ensures c.walk.ensures.ordered (omega arith) c.walk.ensures.walked
