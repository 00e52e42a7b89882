use Rattle.std.proofs.Common.{sym}
use Rattle.mt_word.specs.Round.{word_of_slots-slots_of_word}
use Rattle.mt_word.proofs.permutation_word.Permutation.to_u64.Goals as goal

pub returns-clause-value : goal.returns-clause-value
returns-clause-value c = rw (← c.self.view_is) (sym (word_of_slots-slots_of_word c.self.inside.word c.self.invariant))
