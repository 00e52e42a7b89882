use Rattle.std.proofs.Common.{◌/◌, ◌%◌, ◌^◌}
use Rattle.rowanspan_c.specs.Spelling.{number_spelling}
use Rattle.rowanspan_c.proofs.Placed.{then_writes}
use Rattle.rowanspan_c.proofs.totals.sum.Goals as goal

pub returns : goal.returns
returns c =
    then_writes (number_spelling (c.args.sum / 2 ^ 64)) (number_spelling (c.args.sum % 2 ^ 64)) c.args.into.now c.number-at.new.into c.number.new.into c.args.at c.number-at.result c.number.result c.number-at.ensures c.number.ensures
