use Rattle.std.proofs.Common.{arith}
use Rattle.mt_frame.proofs.FrameLaws.{read_whole, read_only, read_none, read_ended}
use Rattle.mt_frame.proofs.decode.decode.Goals as goal

pub returns-clause-whole : goal.returns-clause-whole
returns-clause-whole c = read_whole c.args.generation c.args.place c.args.bytes.now c.frame.result (λ i. omega (arith, c.type_inv.bytes i)) c.frame.ensures

pub returns-clause-only : goal.returns-clause-only
returns-clause-only c = read_only c.args.generation c.args.place c.args.bytes.now c.frame.result c.frame.ensures

pub returns-clause-end : goal.returns-clause-end
returns-clause-end c = read_none c.args.generation c.args.place c.args.bytes.now c.frame.result c.frame.ensures

pub returns-clause-ended : goal.returns-clause-ended
returns-clause-ended c = read_ended c.args.generation c.args.place c.args.bytes.now c.frame.result c.frame.ensures
