-- What a range may answer.
use Rattle.std.specs.Prelude.{ℕ, ◌≡◌, ◌<◌, ◌≤◌, ◌⊎◌, IsTrue, List, length, count_by, All, Any}
use Rattle.std.specs.FinMap.{is_sorted}
use Rattle.std.specs.Ordering.{is_eq, is_ge, is_le}
use Rattle.mt_types.specs.Keys.{key_cmp}

-- The pairs that answer a range from start on, of at most limit pairs. Stood says of a key and a value that at some
-- moment the key had a row that shows so, and Throughout of a key that it had a row at each moment: the moments are the
--     caller's to name.
pub record IsRangeAnswer {V : Type 0} (Stood : List ℕ → V → Type 0) (Throughout : List ℕ → Type 0) (start : List ℕ)
    (limit : ℕ) (pairs : List (List ℕ × V)) : Type 0 where
  -- the keys rise strictly
  pub rises : IsTrue (is_sorted key_cmp pairs)
  pub from_start : All (λ pair. IsTrue (is_ge (key_cmp pair.0 start))) pairs
  pub few : length pairs ≤ limit
  -- only pairs that were true at some moment
  pub stood : All (λ pair. Stood pair.0 pair.1) pairs
  -- every key that was there throughout, exactly once, but for keys past the last pair where the limit was met
  pub once : (key : List ℕ) → IsTrue (is_ge (key_cmp key start)) → Throughout key
      → (length pairs < limit) ⊎ Any (λ pair. IsTrue (is_le (key_cmp key pair.0))) pairs
      → count_by (λ pair. is_eq (key_cmp key pair.0)) pairs ≡ 1
