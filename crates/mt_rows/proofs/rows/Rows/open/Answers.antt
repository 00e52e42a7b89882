use Rattle.mt_types.proofs.MapLemmas.{seen-empty}
use Rattle.mt_rows.proofs.rows.Rows.open.Goals as goal

pub returns : goal.returns
returns c = seen-empty c.new.result c.new.ensures.ordered c.new.ensures.len
