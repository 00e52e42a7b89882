use Rattle.mt_wire.proofs.ReadingLaws.{reply_frames_read_one_way}
use Rattle.mt_wire.proofs.laws.reply_frames_are_read_one_way.Goals as goal

pub returns : goal.returns
returns c = reply_frames_read_one_way
