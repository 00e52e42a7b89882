-- Who holds the log: numbers in ascending order, each as often as it is held.
use Rattle.std.specs.Prelude.{ℕ, nat_le, ◌<◌, ◌==◌, if◌then◌else◌, List, [], ◌∷◌, ◌++◌, replicate}
use Rattle.std.specs.List.{AllByRecursion}

-- the holders and one more, in order
abbrev pub with_holder : ℕ → List ℕ → List ℕ
with_holder number [] = number ∷ []
with_holder number (holder ∷ holders) =
    if nat_le number holder then number ∷ holder ∷ holders else holder ∷ with_holder number holders

-- the holders but one of this number
abbrev pub without_holder : ℕ → List ℕ → List ℕ
without_holder number [] = []
without_holder number (holder ∷ holders) = if holder == number then holders else holder ∷ without_holder number holders

-- the holders that these counts of numbers stand for
abbrev pub each_held : List (ℕ × ℕ) → List ℕ
each_held [] = []
each_held (entry ∷ entries) = replicate entry.1 entry.0 ++ each_held entries

-- no count is 0
abbrev pub AllHeld : List (ℕ × ℕ) → Type 0
AllHeld entries = AllByRecursion (λ entry. 0 < entry.1) entries
