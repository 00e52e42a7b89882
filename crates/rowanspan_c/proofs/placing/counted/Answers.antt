use Rattle.std.proofs.Common.{length}
use Rattle.rowanspan_c.specs.Spelling.{number_spelling}
use Rattle.rowanspan_c.proofs.Placed.{then_writes}
use Rattle.rowanspan_c.proofs.placing.counted.Goals as goal

pub returns : goal.returns
returns c =
    then_writes (number_spelling (length c.args.column.now)) c.args.column.now c.args.into.now c.number-at.new.into c.bytes.new.into c.args.at c.number-at.result c.bytes.result c.number-at.ensures c.bytes.ensures
