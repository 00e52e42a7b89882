use Rattle.std.proofs.Common.{take}
use Rattle.mt_word.specs.Fields.{fields}
use Rattle.mt_word.proofs.SeenLemmas.{IsSeen}
use Rattle.mt_word.proofs.permutation_word.Permutation.from_u64.Given as goal

abbrev pub invariant-loop-place : goal.invariant-loop-place
invariant-loop-place l = IsSeen l.seen (take l.place (fields 15 l.places))
