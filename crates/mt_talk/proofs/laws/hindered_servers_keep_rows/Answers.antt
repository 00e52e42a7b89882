use Rattle.mt_talk.proofs.ServingLemmas.{hindered_keep_rows}
use Rattle.mt_talk.proofs.laws.hindered_servers_keep_rows.Goals as goal

pub returns : goal.returns
returns g c = hindered_keep_rows g.A.Answers.answers
