-- The classes of a slice, as numbers and in places.
use Rattle.std.specs.Prelude.{ℕ, ◌≤◌, nat_le, if◌then◌else◌}
use Rattle.mt_slice.specs.Place.{Place, last, deeper}
use Rattle.mt_slice.specs.declared.slice_class.Class.{Class}
use Rattle.mt_slice.specs.declared.slice_class.Class.TheVariants.{Len, Long}

-- the class as a number, as the order of places takes it: a length is itself
abbrev pub class_number : Class → ℕ
class_number (Len bytes) = bytes
class_number Long = 9

-- the class of a rest of this many bytes
abbrev pub class_of : ℕ → Class
class_of bytes = if nat_le bytes 8 then Len bytes else Long

-- a length is at most 8
abbrev pub IsClass : Class → Type 0
IsClass (Len bytes) = bytes ≤ 8
IsClass Long = Unit {0}

-- the place with this slice and class in its layer, which continues with `rest` if the class is Long
abbrev pub place_at : ℕ → Class → Place → Place
place_at slice (Len bytes) rest = last slice bytes
place_at slice Long rest = deeper slice rest
