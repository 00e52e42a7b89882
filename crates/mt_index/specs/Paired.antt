-- The machine's calls and the history's, one by one.
use Rattle.std.specs.Prelude.{ℕ, ◌≡◌, ◌≤◌, ◌<◌, List, [], ◌∷◌}
use Rattle.mt_promise.specs.History.{OpenCall}
use Rattle.mt_index.specs.declared.calls.Call.{Call}

-- each of the one side is in the relation to its like on the other; their numbers rise, above low and up to high
abbrev pub Paired : (ℕ × Call → OpenCall → Type 0) → ℕ → ℕ → List (ℕ × Call) → List OpenCall → Type 0
Paired R low high [] [] = low ≤ high
Paired R low high (kept ∷ more) (call ∷ calls) = (low < call.number) × (call.number ≡ kept.0) × R kept call
    × Paired R call.number high more calls
Paired R low high [] (call ∷ calls) = ⊥
Paired R low high (kept ∷ more) [] = ⊥
