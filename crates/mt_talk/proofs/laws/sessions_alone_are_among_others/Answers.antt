use Rattle.mt_talk.proofs.SessionLemmas.{alone_is_among}
use Rattle.mt_talk.proofs.laws.sessions_alone_are_among_others.Goals as goal

pub returns : goal.returns
returns g c = alone_is_among g.A.Answers.answers
