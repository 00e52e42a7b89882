-- The law, by its lemmas.
use Rattle.mt_slice.proofs.PlaceOn.{place_of-place_at, place_of-under}
use Rattle.mt_slice.proofs.laws.places_go_by_slices.Goals as goal

pub returns-clause-first : goal.returns-clause-first
returns-clause-first c = place_of-place_at

pub returns-clause-layers : goal.returns-clause-layers
returns-clause-layers c = place_of-under
