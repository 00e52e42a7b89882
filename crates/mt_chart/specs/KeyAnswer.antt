-- Keys of bytes as places.
use Rattle.std.specs.Prelude.{ℕ, List, [], ◌∷◌}
use Rattle.mt_slice.specs.Place.{AreBytes, place_of}
use Rattle.mt_chart.specs.Scan.{Pair}

-- the pairs, each key as its place
abbrev pub as_places : {V : Type 0} → List (List ℕ × V) → List (Pair V)
as_places [] = []
as_places (pair ∷ pairs) = record { key = place_of pair.0; value = pair.1 } ∷ as_places pairs

-- each key is bytes
abbrev pub KeysAreBytes : {V : Type 0} → List (List ℕ × V) → Type 0
KeysAreBytes [] = Unit {0}
KeysAreBytes (pair ∷ pairs) = AreBytes pair.0 × KeysAreBytes pairs
