-- The laws of places, classes and keys.
use Rattle.std.specs.Prelude.{ℕ, ◌≡◌, ◌<◌, ◌*◌, List, length, drop}
use Rattle.mt_types.specs.Keys.{key_cmp}
use Rattle.mt_slice.specs.Place.{Place, IsCanonical, place_cmp, under, AreBytes, slice_number, place_of, bytes_of_place, rest_at, slices_above}
use Rattle.mt_slice.specs.Classes.{IsClass, class_number, class_of, place_at}
use Rattle.mt_slice.specs.declared.slice_class.Class.{Class}

-- two keys compare as their places do
abbrev pub PlacesCompareAsKeys : Type 0
PlacesCompareAsKeys = (a b : List ℕ) → AreBytes a → AreBytes b → place_cmp (place_of a) (place_of b) ≡ key_cmp a b

-- keys with the same place are the same
abbrev pub PlacesTellKeys : Type 0
PlacesTellKeys = (a b : List ℕ) → AreBytes a → AreBytes b → place_of a ≡ place_of b → a ≡ b

-- the place of a key is canonical
abbrev pub PlacesAreCanonical : Type 0
PlacesAreCanonical = (key : List ℕ) → AreBytes key → IsCanonical (place_of key)

-- the bytes of the place of a key are the key
abbrev pub BytesComeBack : Type 0
BytesComeBack = (key : List ℕ) → AreBytes key → bytes_of_place (place_of key) ≡ key

-- the bytes of a canonical place are a key, which has that place
abbrev pub CanonicalPlacesAreOfKeys : Type 0
CanonicalPlacesAreOfKeys =
    (place : Place) → IsCanonical place → AreBytes (bytes_of_place place) × (place_of (bytes_of_place place) ≡ place)

-- a place begins with the slice and the class of its bytes, and continues with what follows the slice
abbrev pub PlacesGoBySlices : Type 0
PlacesGoBySlices =
    (rest : List ℕ) → place_of rest ≡ place_at (slice_number rest) (class_of (length rest)) (place_of (drop 8 rest))

-- a key that continues past the layers above has its rest there under their slices
abbrev pub PlacesGoByLayers : Type 0
PlacesGoByLayers =
    (layer : ℕ) (key : List ℕ) → 8 * layer < length key
    → place_of key ≡ under (slices_above layer key) (place_of (rest_at layer key))

-- the number of a class is one of ten
abbrev pub ClassesAreFew : Type 0
ClassesAreFew = (c : Class) → IsClass c → class_number c < 10

-- classes with the same number are the same
abbrev pub ClassNumbersTellClasses : Type 0
ClassNumbersTellClasses = (c d : Class) → IsClass c → IsClass d → class_number c ≡ class_number d → c ≡ d
