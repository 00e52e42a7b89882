use Rattle.mt_wire.proofs.ReadingLaws.{frame_stands_alone}
use Rattle.mt_wire.proofs.laws.a_frame_stands_alone.Goals as goal

pub returns : goal.returns
returns c = frame_stands_alone
