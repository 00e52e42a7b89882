use Rattle.mt_types.specs.Rows.{chosen}
use Rattle.rowanspan_c.specs.Spelling.{number_spelling, bytes_spelling, list_spelling}
use Rattle.rowanspan_c.proofs.Placed.{then_writes}
use Rattle.rowanspan_c.proofs.placing.row.Goals as goal

pub returns : goal.returns
returns c =
    then_writes (number_spelling c.args.row.now.version) (list_spelling bytes_spelling (chosen c.args.asked.now c.args.row.now.columns)) c.args.into.now c.number-at.new.into c.list.new.into 0 c.number-at.result c.list.result c.number-at.ensures c.list.ensures
