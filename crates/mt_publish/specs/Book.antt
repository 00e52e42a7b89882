-- The rule of a chain's book, and what the step that adds a delta says.
use Rattle.std.specs.Prelude.{ℕ, ◌≡◌, ◌==◌, true, List, [], ◌∷◌, ◌++◌, length, MatchBool}
use Rattle.logbook.specs.Pages.{Cell, Step, View, Book, Named}
use Rattle.mt_types.specs.declared.row.Delta.{Delta}

-- the first word is the length of the chain; the second, which every book has, stays 0
abbrev pub IsCounted : List Cell → List Delta → Type 0
IsCounted cells chain = cells ≡ (length chain, true) ∷ (0, true) ∷ []

-- the first word of the book
abbrev pub end_of : Book → Named
end_of book = record { tracked = true; key = 0; book = book }

-- if the length that was found is the one that had been seen, the delta was added after all that had been seen
abbrev pub Adds : Step Delta → View Delta ℕ → ℕ → View Delta ℕ → Type 0
Adds step before found after = MatchBool (found == step.old) (after.0 ≡ before.0 ++ step.ask ∷ []) (Unit {0})
