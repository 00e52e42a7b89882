use Rattle.mt_talk.proofs.ClientLemmas.{closed_clients_are_one}
use Rattle.mt_talk.proofs.laws.closed_sessions_are_one.Goals as goal

pub returns : goal.returns
returns g c = closed_clients_are_one g.A.Answers.answers g.B.Answers.answers
