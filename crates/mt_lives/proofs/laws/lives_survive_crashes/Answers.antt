use Rattle.mt_lives.proofs.SentenceLemmas.{survive}
use Rattle.mt_lives.proofs.laws.lives_survive_crashes.Goals as goal

pub returns : goal.returns
returns c = survive c.crashed_folders_have_the_rows.ensures.read
