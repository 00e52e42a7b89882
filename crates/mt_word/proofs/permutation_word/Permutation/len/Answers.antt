use Rattle.std.proofs.Common.{◌≡◌, bit_and, length, sym, ◌∙◌, arith}
use Rattle.std.proofs.lemmas.Nat.{and_mask}
use Rattle.mt_word.specs.Round.{length-live}
use Rattle.mt_word.proofs.PlacesLemmas.{fifteen_together, arranged_from_places}
use Rattle.mt_word.specs.Slots.{IsArranged}
use Rattle.mt_word.proofs.permutation_word.Permutation.len.Goals as goal

count_is : (c : goal.After-self) → bit_and c.self.inside.word 15 ≡ length c.args.self.now.live
count_is c = and_mask c.self.inside.word 4 ∙ rw (← c.self.view_is) (sym (length-live c.self.inside.word))

pub returns-clause-value : goal.returns-clause-value
returns-clause-value c = count_is c

pub returns-clause-within : goal.returns-clause-within
returns-clause-within c =
    let arranged : IsArranged c.args.self.now = rw (← c.self.view_is) (arranged_from_places _ _ c.self.invariant.each_once) in
    omega (arith, count_is c, fifteen_together c.args.self.now arranged)
