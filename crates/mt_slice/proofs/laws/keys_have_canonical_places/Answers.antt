-- The law, by its lemmas.
use Rattle.mt_slice.proofs.Canonical.{IsCanonical-place_of, bytes_of_place-place_of}
use Rattle.mt_slice.proofs.laws.keys_have_canonical_places.Goals as goal

pub returns-clause-canonical : goal.returns-clause-canonical
returns-clause-canonical c = IsCanonical-place_of

pub returns-clause-back : goal.returns-clause-back
returns-clause-back c = bytes_of_place-place_of
