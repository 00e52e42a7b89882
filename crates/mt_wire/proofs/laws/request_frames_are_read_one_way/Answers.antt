use Rattle.mt_wire.proofs.ReadingLaws.{request_frames_read_one_way}
use Rattle.mt_wire.proofs.laws.request_frames_are_read_one_way.Goals as goal

pub returns : goal.returns
returns c = request_frames_read_one_way
