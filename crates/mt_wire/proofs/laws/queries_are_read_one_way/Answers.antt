use Rattle.mt_wire.proofs.ReadingLaws.{queries_read_one_way}
use Rattle.mt_wire.proofs.laws.queries_are_read_one_way.Goals as goal

pub returns : goal.returns
returns c = queries_read_one_way
