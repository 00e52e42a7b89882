use Rattle.std.proofs.Common.{◌++◌}
use Rattle.mt_types.specs.Rows.{chosen}
use Rattle.rowanspan_c.specs.Spelling.{number_spelling, bytes_spelling, list_spelling}
use Rattle.rowanspan_c.proofs.Written.{last_written}
use Rattle.rowanspan_c.proofs.ranging.pair.Goals as goal

pub returns : goal.returns
returns c =
    let old = c.args.out.now.items in let new = c.columns.new.out.items in
    let key = bytes_spelling c.args.key.now in let version = number_spelling c.args.row.now.version in
    let columns = list_spelling bytes_spelling (chosen c.args.asked.now c.args.row.now.columns) in
    last_written c.columns.result old c.bytes.new.out.items new key (version ++ columns) c.in_ok-bytes.ensures
    (last_written c.columns.result c.bytes.new.out.items c.number.new.out.items new version columns c.in_ok-number.ensures c.columns.ensures)
