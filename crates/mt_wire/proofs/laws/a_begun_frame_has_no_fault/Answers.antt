use Rattle.mt_wire.proofs.ReadingLaws.{begun_has_no_fault}
use Rattle.mt_wire.proofs.laws.a_begun_frame_has_no_fault.Goals as goal

pub returns : goal.returns
returns c = begun_has_no_fault
