use Rattle.mt_wire.proofs.ReadingLaws.{fault_stays}
use Rattle.mt_wire.proofs.laws.a_fault_stays.Goals as goal

pub returns : goal.returns
returns c = fault_stays
