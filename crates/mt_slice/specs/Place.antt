-- The place of a key in the trie, of a key of bytes, and the order of places.
use Rattle.std.specs.Prelude.{ℕ, zero, suc, ◌≡◌, ◌<◌, ◌≤◌, ◌-◌, ◌*◌, ◌%◌, ◌^◌, ◌⊎◌, nat_le, if◌then◌else◌, List, [], ◌∷◌, ◌++◌, length, take, drop, replicate}
use Rattle.std.specs.declared.cmp.Ordering.{Ordering}
use Rattle.std.specs.declared.cmp.Ordering.TheVariants.{Less, Greater}
use Rattle.std.specs.Ordering.{nat_cmp, ordering_then}
use Rattle.std.specs.Int.{w64, to_be_bytes}
use Rattle.std.specs.Slice.Scan.{big_endian}

-- A key, layer by layer: each slice that the key goes past, then its last slice with the number of bytes there.
pub data Place : Type 0 where
  last : ℕ → ℕ → Place
  deeper : ℕ → Place → Place

-- the slice of a place in its layer
abbrev pub first_slice : Place → ℕ
first_slice (last slice bytes) = slice
first_slice (deeper slice rest) = slice

-- the class of a place in its layer, as a number: the number of bytes if the key ends there, and 9 if it continues
abbrev pub first_class : Place → ℕ
first_class (last slice bytes) = bytes
first_class (deeper slice rest) = 9

-- The place `rest` of a layer, as a place of layer 0. The slices are those above the layer, the nearest first.
abbrev pub under : List ℕ → Place → Place
under [] rest = rest
under (slice ∷ above) rest = under above (deeper slice rest)

-- each number is a byte
abbrev pub AreBytes : List ℕ → Type 0
AreBytes [] = Unit {0}
AreBytes (byte ∷ bytes) = (byte < 256) × AreBytes bytes

-- the first eight bytes as a big-endian number, padded with zero bytes
unfoldable pub slice_number : List ℕ → ℕ
slice_number bytes = big_endian 0 (take 8 (bytes ++ replicate 8 0))

-- the place of bytes that continue past at most this number of slices
abbrev pub place_within : ℕ → List ℕ → Place
place_within zero bytes = last (slice_number bytes) (length bytes)
place_within (suc slices) bytes =
    if nat_le (length bytes) 8 then last (slice_number bytes) (length bytes)
    else deeper (slice_number bytes) (place_within slices (drop 8 bytes))

-- The place of bytes, in each layer by the slice and the number of bytes there. Bytes continue past no more slices than
-- there are bytes.
unfoldable pub place_of : List ℕ → Place
place_of bytes = place_within (length bytes) bytes

-- the rest of a key in a layer: each layer above it takes eight bytes
abbrev pub rest_at : ℕ → List ℕ → List ℕ
rest_at layer bytes = drop (8 * layer) bytes

-- the slices of the layers above a layer, the nearest first
abbrev pub slices_above : ℕ → List ℕ → List ℕ
slices_above zero bytes = []
slices_above (suc layer) bytes = slice_number (rest_at layer bytes) ∷ slices_above layer bytes

-- the bytes of a place: the eight of each slice that it goes past, and those of its last slice that are of the key
abbrev pub bytes_of_place : Place → List ℕ
bytes_of_place (last slice bytes) = take bytes (to_be_bytes w64 slice)
bytes_of_place (deeper slice rest) = to_be_bytes w64 slice ++ bytes_of_place rest

-- The place is one that a key of bytes has: at most eight bytes end it, its slices are of 64 bits, what pads the last
-- of them is zero, and some byte follows each slice that the key goes past.
abbrev pub IsCanonical : Place → Type 0
IsCanonical (last slice bytes) = (bytes ≤ 8) × (slice < 2 ^ 64) × (slice % 256 ^ (8 - bytes) ≡ 0)
IsCanonical (deeper slice rest) = (slice < 2 ^ 64) × (0 < first_class rest) × IsCanonical rest

-- The order of places: by the slice, then by the class, and for two that continue past one slice, by the rest. No key
-- ends after more than eight bytes of a slice, but a scan may be there: after nine bytes it is before all that
-- continues past the slice, and after ten bytes it is after all of that.
abbrev pub Precedes : Place → Place → Type 0
Precedes (last s k) (last t j) = (s < t) ⊎ ((s ≡ t) × (k < j))
Precedes (last s k) (deeper t y) = (s < t) ⊎ ((s ≡ t) × (k ≤ 9))
Precedes (deeper s x) (last t j) = (s < t) ⊎ ((s ≡ t) × (9 < j))
Precedes (deeper s x) (deeper t y) = (s < t) ⊎ ((s ≡ t) × Precedes x y)

-- how two places compare in that order
abbrev pub place_cmp : Place → Place → Ordering
place_cmp (last s k) (last t j) = ordering_then (nat_cmp s t) (nat_cmp k j)
place_cmp (last s k) (deeper t y) = ordering_then (nat_cmp s t) (if nat_le k 9 then Less else Greater)
place_cmp (deeper s x) (last t j) = ordering_then (nat_cmp s t) (if nat_le j 9 then Greater else Less)
place_cmp (deeper s x) (deeper t y) = ordering_then (nat_cmp s t) (place_cmp x y)
