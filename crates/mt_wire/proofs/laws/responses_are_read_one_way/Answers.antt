use Rattle.mt_wire.proofs.ReadingLaws.{responses_read_one_way}
use Rattle.mt_wire.proofs.laws.responses_are_read_one_way.Goals as goal

pub returns : goal.returns
returns c = responses_read_one_way
