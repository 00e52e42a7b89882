use Rattle.mt_talk.proofs.ServingLemmas.{readers_read}
use Rattle.mt_talk.proofs.laws.readers_read.Goals as goal

pub returns : goal.returns
returns g c = readers_read g.A.Answers.answers
