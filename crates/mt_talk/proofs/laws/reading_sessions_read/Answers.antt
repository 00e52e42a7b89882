use Rattle.mt_talk.proofs.ClientLemmas.{reading_sessions_read, reading_clients_read}
use Rattle.mt_talk.proofs.laws.reading_sessions_read.Goals as goal

pub returns-clause-alone : goal.returns-clause-alone
returns-clause-alone g c = reading_sessions_read g.A.Answers.answers

pub returns-clause-among : goal.returns-clause-among
returns-clause-among g c = reading_clients_read g.A.Answers.answers
