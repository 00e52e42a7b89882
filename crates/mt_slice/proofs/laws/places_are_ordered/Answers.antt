-- The law, by its lemmas.
use Rattle.mt_slice.proofs.PlaceOrder.{place_cmp_total, place_cmp-Less, place_cmp-Equal}
use Rattle.mt_slice.proofs.laws.places_are_ordered.Goals as goal

pub returns-clause-total : goal.returns-clause-total
returns-clause-total c = place_cmp_total

pub returns-clause-less : goal.returns-clause-less
returns-clause-less c = place_cmp-Less

pub returns-clause-equal : goal.returns-clause-equal
returns-clause-equal c = place_cmp-Equal
