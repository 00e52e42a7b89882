-- The law, by its lemmas.
use Rattle.mt_slice.proofs.Canonical.{same_from_place_of}
use Rattle.mt_slice.proofs.laws.places_tell_keys.Goals as goal

pub returns : goal.returns
returns c = same_from_place_of
