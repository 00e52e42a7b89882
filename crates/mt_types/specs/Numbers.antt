-- Numbers that are counted up, and the least of some.
use Rattle.std.specs.Prelude.{ℕ, ◌-◌, ◌^◌, min, List, [], ◌∷◌}

-- the greatest value of a number that is counted up
abbrev pub greatest_number : ℕ
greatest_number = 2 ^ 64 - 1

-- the least of these numbers and a first one
abbrev pub least : ℕ → List ℕ → ℕ
least best [] = best
least best (n ∷ ns) = least (min best n) ns
