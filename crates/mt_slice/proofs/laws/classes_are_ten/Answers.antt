-- The law, by its lemmas.
use Rattle.std.proofs.Common.{refl, arith}
use Rattle.std.specs.declared.cmp.Ordering.TheVariants.{Less, Greater}
use Rattle.std.specs.Cmp.{nat_cmp_is}
use Rattle.mt_slice.specs.declared.slice_class.Class.TheVariants.{Len, Long}
use Rattle.mt_slice.proofs.ClassNumbers.{class_number-below, same_from_class_number}
use Rattle.mt_slice.proofs.laws.classes_are_ten.Goals as goal

pub returns-clause-few : goal.returns-clause-few
returns-clause-few c = class_number-below

pub returns-clause-apart : goal.returns-clause-apart
returns-clause-apart c = same_from_class_number

pub returns-clause-ordered : goal.returns-clause-ordered
returns-clause-ordered c (Len k) (Len j) h g = refl
returns-clause-ordered c (Len k) Long h g = nat_cmp_is k 9 Less (omega arith)
returns-clause-ordered c Long (Len j) h g = nat_cmp_is 9 j Greater (omega arith)
returns-clause-ordered c Long Long h g = refl
