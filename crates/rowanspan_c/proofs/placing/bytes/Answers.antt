use Rattle.std.proofs.Common.{arith}
use Rattle.rowanspan_c.proofs.Placed.{written}
use Rattle.rowanspan_c.proofs.placing.bytes.Goals as goal

pub returns : goal.returns
returns c =
    written c.args.at _ c.args.into.now c.copy_from_slice.new.self c.args.bytes.now c.copy_from_slice.ensures.after (omega arith) c.requires
