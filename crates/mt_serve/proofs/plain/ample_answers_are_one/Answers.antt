use Rattle.mt_serve.proofs.AmpleLemmas.{ample_answers, answers_are_one}
use Rattle.mt_serve.proofs.NewestLemmas.{views_stay_newest}
use Rattle.mt_serve.proofs.plain.ample_answers_are_one.Goals as goal

pub returns-clause-theirs : goal.returns-clause-theirs
returns-clause-theirs c = ample_answers

pub returns-clause-one : goal.returns-clause-one
returns-clause-one c = answers_are_one

pub returns-clause-newest : goal.returns-clause-newest
returns-clause-newest c = views_stay_newest
