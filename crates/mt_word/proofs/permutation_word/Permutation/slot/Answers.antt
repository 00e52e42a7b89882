use Rattle.std.proofs.Common.{arith}
use Rattle.mt_word.proofs.PlacesLemmas.{fifteen_together, slot_below}
use Rattle.mt_word.proofs.permutation_word.Permutation.slot.Goals as goal

pub field_at-requires : goal.field_at-requires
field_at-requires c = omega (arith, fifteen_together c.args.self.now c.places.ensures.arranged)

pub returns-clause-below : goal.returns-clause-below
returns-clause-below c = slot_below c.args.self.now _ c.args.place _ c.places.ensures.arranged c.places.ensures.value (omega (arith, fifteen_together c.args.self.now c.places.ensures.arranged)) c.field_at.ensures.value
