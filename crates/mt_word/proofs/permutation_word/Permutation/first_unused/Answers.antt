use Rattle.std.proofs.Common.{arith}
use Rattle.mt_word.proofs.PlacesLemmas.{slot_below}
use Rattle.mt_word.proofs.permutation_word.Permutation.first_unused.Goals as goal

pub returns-clause-below : goal.returns-clause-below
returns-clause-below c = slot_below c.args.self.now _ c.len.result _ c.places.ensures.arranged c.places.ensures.value (omega arith) c.field_at.ensures.value
