use Rattle.mt_word.proofs.ShiftLemmas.{pow_of_sixteen}
use Rattle.mt_word.proofs.permutation_word.above.Goals as goal

pub returns : goal.returns
returns c = rw (pow_of_sixteen c.args.count)
