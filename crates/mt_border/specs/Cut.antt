-- The places at which a full border may be cut in two, by the slices of its entries.
use Rattle.std.specs.Prelude.{◌≡◌, ◌≢◌, ℕ, ◌+◌, ◌-◌, ◌<◌, ◌≤◌, List, map, slice_index}
use Rattle.mt_word.specs.declared.permutation_word.TheConstants.{SLOTS}
use Rattle.mt_border.specs.declared.entry.Entry.{Entry}

-- the slices of these entries
abbrev pub slices : List Entry → List ℕ
slices live = map (λ entry. entry.slice) live

-- Before place i, from 1 to 14, fifteen entries of these slices may be cut in two: the slices on both sides differ.
pub record IsCut (of : List ℕ) (i : ℕ) : Type 0 where
  pub first : 1 ≤ i
  pub last : i < SLOTS
  pub apart : slice_index of (i - 1) ≢ slice_index of i

-- how far two numbers are apart
abbrev pub distance : ℕ → ℕ → ℕ
distance a b = (a - b) + (b - a)

-- the cut nearest to 8, and the smaller of two that are as near
pub record IsBestCut (of : List ℕ) (i : ℕ) : Type 0 where
  pub lawful : IsCut of i
  pub nearest : (j : ℕ) → IsCut of j → distance i 8 ≤ distance j 8
  pub smaller : (j : ℕ) → IsCut of j → distance j 8 ≡ distance i 8 → i ≤ j

-- no cut is nearer to the middle than this
pub record NoneNearer (of : List ℕ) (d : ℕ) : Type 0 where
  pub each : (i : ℕ) → IsCut of i → d ≤ distance i 8
