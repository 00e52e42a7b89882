use Rattle.mt_word.proofs.ShiftLemmas.{joined_fields}
use Rattle.mt_word.proofs.permutation_word.joined.Goals as goal

pub returns : goal.returns
returns c = joined_fields c.args.low c.args.count c.args.high c.requires.count_fits c.requires.low_fits c.requires.high_fits
