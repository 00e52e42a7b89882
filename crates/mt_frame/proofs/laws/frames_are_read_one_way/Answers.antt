use Rattle.mt_frame.proofs.FrameLaws.{frames_read_one_way}
use Rattle.mt_frame.proofs.laws.frames_are_read_one_way.Goals as goal

pub returns : goal.returns
returns c = frames_read_one_way
