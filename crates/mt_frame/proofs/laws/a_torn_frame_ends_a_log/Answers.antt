use Rattle.mt_frame.proofs.FrameLaws.{torn_frames_end}
use Rattle.mt_frame.proofs.laws.a_torn_frame_ends_a_log.Goals as goal

pub returns : goal.returns
returns c = torn_frames_end
