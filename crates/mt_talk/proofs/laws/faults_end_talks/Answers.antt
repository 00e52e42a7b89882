use Rattle.mt_talk.proofs.SessionLemmas.{faults_end_talks}
use Rattle.mt_talk.proofs.laws.faults_end_talks.Goals as goal

pub returns : goal.returns
returns c = faults_end_talks
