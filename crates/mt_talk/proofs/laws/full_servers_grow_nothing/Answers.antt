use Rattle.mt_talk.proofs.ServingLemmas.{full_grow_nothing}
use Rattle.mt_talk.proofs.laws.full_servers_grow_nothing.Goals as goal

pub returns : goal.returns
returns g c = full_grow_nothing g.A.Answers.answers
