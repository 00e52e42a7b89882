-- The law, by its lemmas.
use Rattle.mt_slice.proofs.Canonical.{bytes-bytes_of_place, place_of-bytes_of_place}
use Rattle.mt_slice.proofs.laws.canonical_places_have_keys.Goals as goal

pub returns : goal.returns
returns c = λ place h. (bytes-bytes_of_place place, place_of-bytes_of_place place h)
