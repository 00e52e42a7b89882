-- The law, by its lemmas.
use Rattle.mt_slice.proofs.KeyOrder.{place_cmp-place_of}
use Rattle.mt_slice.proofs.laws.places_compare_as_keys.Goals as goal

pub returns : goal.returns
returns c = place_cmp-place_of
