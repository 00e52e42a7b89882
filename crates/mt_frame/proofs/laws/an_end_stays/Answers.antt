use Rattle.mt_frame.proofs.FrameLaws.{ends_stay}
use Rattle.mt_frame.proofs.laws.an_end_stays.Goals as goal

pub returns : goal.returns
returns c = ends_stay
