use Rattle.mt_talk.proofs.SessionLemmas.{unfinished_has_no_front, same_bytes_same_frames}
use Rattle.mt_talk.proofs.laws.same_bytes_are_the_same_frames.Goals as goal

pub returns-clause-unfinished : goal.returns-clause-unfinished
returns-clause-unfinished c = unfinished_has_no_front

pub returns-clause-same : goal.returns-clause-same
returns-clause-same c = same_bytes_same_frames
