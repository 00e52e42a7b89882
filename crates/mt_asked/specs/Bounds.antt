-- Which keys are within bounds.
use Rattle.std.specs.Prelude.{ℕ, Bool, true, ◌&&◌, List, []}
use Rattle.std.specs.Ordering.{is_le, is_lt}
use Rattle.std.specs.declared.ops.Bound.{Bound}
use Rattle.std.specs.declared.ops.Bound.TheVariants.{Included, Excluded, Unbounded}
use Rattle.mt_types.specs.Keys.{key_cmp}

-- the key of a lower bound
abbrev pub start_key : Bound (List ℕ) → List ℕ
start_key (Included key) = key
start_key (Excluded key) = key
start_key Unbounded = []

-- the key isn't before a lower bound
abbrev pub is_from : Bound (List ℕ) → List ℕ → Bool
is_from (Included first) key = is_le (key_cmp first key)
is_from (Excluded before) key = is_lt (key_cmp before key)
is_from Unbounded key = true

-- the key isn't after an upper bound
abbrev pub is_up_to : Bound (List ℕ) → List ℕ → Bool
is_up_to (Included last) key = is_le (key_cmp key last)
is_up_to (Excluded after) key = is_lt (key_cmp key after)
is_up_to Unbounded key = true

abbrev pub is_within : Bound (List ℕ) → Bound (List ℕ) → List ℕ → Bool
is_within start end key = is_from start key && is_up_to end key
