use Rattle.std.proofs.Common.{refl, arith}
use Rattle.std.proofs.lemmas.List.Sorted.{IsPermutation-refl}
use Rattle.mt_word.specs.Fields.{fields}
use Rattle.mt_word.specs.Slots.{all_slots}
use Rattle.mt_word.proofs.permutation_word.Permutation.empty.Goals as goal

pub invariant_of-result : goal.invariant_of-result
unfolding fields
invariant_of-result c = record { fits = omega arith; each_once = IsPermutation-refl all_slots }

pub returns-clause-value : goal.returns-clause-value
unfolding fields
returns-clause-value c = refl

pub returns-clause-arranged : goal.returns-clause-arranged
unfolding fields
returns-clause-arranged c = record { each_once = IsPermutation-refl all_slots }
