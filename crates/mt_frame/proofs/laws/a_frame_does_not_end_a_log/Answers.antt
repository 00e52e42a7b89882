use Rattle.mt_frame.proofs.FrameLaws.{frames_do_not_end}
use Rattle.mt_frame.proofs.laws.a_frame_does_not_end_a_log.Goals as goal

pub returns : goal.returns
returns c = frames_do_not_end
