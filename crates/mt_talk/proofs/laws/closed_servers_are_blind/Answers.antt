use Rattle.mt_talk.proofs.ServingLemmas.{closed_is_blind}
use Rattle.mt_talk.proofs.laws.closed_servers_are_blind.Goals as goal

pub returns : goal.returns
returns g c = closed_is_blind g.A.Answers.answers
