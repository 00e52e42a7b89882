-- Bytes that are written into a buffer.
use Rattle.std.specs.Prelude.{ℕ, ◌+◌, ◌≡◌, List, ◌++◌, length, take, drop}

-- BYTES ARE WRITTEN AT A PLACE: they follow what is before it, and what is after them stays. `after` is where they end.
abbrev pub Writes : List ℕ → ℕ → List ℕ → List ℕ → ℕ → Type 0
Writes bytes at old new after =
    (after ≡ at + length bytes) × (take after new ≡ take at old ++ bytes) × (drop after new ≡ drop after old)
    × (length new ≡ length old)
