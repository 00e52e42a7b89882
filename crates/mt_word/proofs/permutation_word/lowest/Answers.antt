use Rattle.mt_word.proofs.ShiftLemmas.{masked}
use Rattle.mt_word.proofs.permutation_word.lowest.Goals as goal

pub returns : goal.returns
returns c = masked c.args.fields c.args.count c.requires
