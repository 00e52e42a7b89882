use Rattle.mt_talk.proofs.ClientLemmas.{closed_sessions_are_blind, closed_clients_are_blind}
use Rattle.mt_talk.proofs.laws.closed_sessions_are_blind.Goals as goal

pub returns-clause-alone : goal.returns-clause-alone
returns-clause-alone g c = closed_sessions_are_blind g.A.Answers.answers

pub returns-clause-among : goal.returns-clause-among
returns-clause-among g c = closed_clients_are_blind g.A.Answers.answers
