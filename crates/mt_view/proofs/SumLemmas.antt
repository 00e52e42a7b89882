-- The sums of the rows of a sorted map, as a row comes and goes.
use Rattle.std.proofs.Common.{◌≡◌, ℕ, zero, suc, ◌+◌, ◌-◌, ◌*◌, ◌^◌, ◌<◌, ◌≤◌, List, [], ◌∷◌, length, Option, Some, None, refl, ap, sym, ◌∙◌, subst, arith}
use Rattle.std.specs.Prelude.{slice_index, sum_by, All}
use Rattle.std.specs.Option.{unwrap_or, option_map}
use Rattle.std.specs.List.Sorted.{IsStrictlySortedBy}
use Rattle.std.specs.Map.{keys_of, values_of, lookup, remove_entry}
use Rattle.std.specs.BTreeMap.{is_at, insert_entry}
use Rattle.std.proofs.lemmas.List.Elements.{All-weaker}
use Rattle.std.proofs.lemmas.List.Sums.{sum_by-cons, sum_by-le}
use Rattle.std.proofs.lemmas.Map.Entries.{length-values_of, sum_by-insert_entry, sum_by-remove_entry}
use Rattle.std.proofs.lemmas.Map.Views.{All-values-insert_entry, All-map-remove_entry}
use Rattle.mt_types.specs.Keys.{key_cmp}
use Rattle.mt_types.specs.Views.{amount, column_of, column_sum, column_sums}
use Rattle.mt_types.specs.declared.row.Row.{Row}
use Rattle.mt_types.proofs.MapLemmas.{Entries, key_order}

abbrev pub amount_in : ℕ → Row → ℕ
amount_in column row = amount (column_of column row)

-- each sum is that of its column
abbrev pub IsSummed : ℕ → List ℕ → Entries → Type 0
IsSummed C sums es = (column : ℕ) → column < C → slice_index sums column ≡ column_sum column es

-- each amount is below 2 ^ 64
abbrev pub IsSmall : ℕ → Entries → Type 0
IsSmall C es = (column : ℕ) → column < C → All (λ row. amount (column_of column row) < 2 ^ 64) (values_of es)

column_sum-values : (column : ℕ) (es : Entries) → column_sum column es ≡ sum_by (amount_in column) (values_of es)
column_sum-values column [] = refl
column_sum-values column (e ∷ es) =
    sum_by-cons (λ (pair : List ℕ × Row). amount_in column pair.1) e es
    ∙ ap (λ n. amount_in column e.1 + n) (column_sum-values column es)
    ∙ sym (sum_by-cons (amount_in column) e.1 (values_of es))

-- a sum is at most the greatest amount for each row
pub sum_bound : (column : ℕ) (es : Entries) → All (λ row. amount (column_of column row) < 2 ^ 64) (values_of es) → column_sum column es ≤ length es * (2 ^ 64 - 1)
sum_bound column es small =
    let each = All-weaker (λ (row : Row). amount_in column row < 2 ^ 64) (λ (row : Row). amount_in column row ≤ 2 ^ 64 - 1) (λ row h. omega arith) (values_of es) small in
    let most = sum_by-le (amount_in column) (2 ^ 64 - 1) (values_of es) each in
    rw (column_sum-values column es, ← length-values_of es) most

-- no sum of so few rows is near its greatest value
pub room : (C : ℕ) (sums : List ℕ) (es : Entries) → IsSummed C sums es → IsSmall C es → length es < 2 ^ 63 → (column : ℕ) → column < C → slice_index sums column + 2 ^ 64 ≤ 2 ^ 128
room C sums es summed small few column h =
    let bound = sum_bound column es (small column h) in
    let is = summed column h in omega arith

column_sum-insert : (column : ℕ) (es : Entries) (k : List ℕ) (v : Row) → IsStrictlySortedBy key_cmp (keys_of es)
    → column_sum column (insert_entry key_cmp es k v) + unwrap_or (option_map (amount_in column) (lookup (is_at (key_cmp k)) es)) 0 ≡ column_sum column es + amount_in column v
column_sum-insert column es k v sorted =
    rw (column_sum-values column (insert_entry key_cmp es k v), column_sum-values column es)
    (sum_by-insert_entry (amount_in column) key_order es k v sorted)

column_sum-remove : (column : ℕ) (es : Entries) (k : List ℕ)
    → column_sum column (remove_entry (is_at (key_cmp k)) es) + unwrap_or (option_map (amount_in column) (lookup (is_at (key_cmp k)) es)) 0 ≡ column_sum column es
column_sum-remove column es k =
    rw (column_sum-values column (remove_entry (is_at (key_cmp k)) es), column_sum-values column es)
    (sum_by-remove_entry (amount_in column) (is_at (key_cmp k)) es)

-- the amounts of a row that is there are part of the sums
pub covered : (C : ℕ) (sums : List ℕ) (es : Entries) (k : List ℕ) (old : Row) → IsSummed C sums es → Some old ≡ lookup (is_at (key_cmp k)) es
    → (column : ℕ) → column < C → amount (column_of column old) ≤ slice_index sums column
covered C sums es k old summed there column h =
    let left = column_sum-remove column es k in
    let found = ap (λ (o : Option Row). unwrap_or (option_map (amount_in column) o) 0) there in
    let is = summed column h in omega (arith, left, found, is)

pub summed_new : (C : ℕ) (before after : List ℕ) (es fs : Entries) (k : List ℕ) (v row : Row) → IsSummed C before es → IsStrictlySortedBy key_cmp (keys_of es)
    → None ≡ lookup (is_at (key_cmp k)) es → v ≡ row → fs ≡ insert_entry key_cmp es k v
    → ((column : ℕ) → column < C → slice_index after column ≡ slice_index before column + amount (column_of column row))
    → IsSummed C after fs
summed_new C before after es fs k v row summed sorted none same e added column h =
    let found = ap (λ (o : Option Row). unwrap_or (option_map (amount_in column) o) 0) none in
    let sum = column_sum-insert column es k v sorted in
    let is = summed column h in
    let now = added column h in
    let alike = ap (amount_in column) same in
    let made = ap (column_sum column) e in omega (arith, found, sum, is, now, alike, made)

pub summed_replaced : (C : ℕ) (before after : List ℕ) (es fs : Entries) (k : List ℕ) (v row old : Row) → IsSummed C before es → IsStrictlySortedBy key_cmp (keys_of es)
    → Some old ≡ lookup (is_at (key_cmp k)) es → v ≡ row → fs ≡ insert_entry key_cmp es k v
    → ((column : ℕ) → column < C → slice_index after column + amount (column_of column old) ≡ slice_index before column + amount (column_of column row))
    → IsSummed C after fs
summed_replaced C before after es fs k v row old summed sorted there same e replaced column h =
    let found = ap (λ (o : Option Row). unwrap_or (option_map (amount_in column) o) 0) there in
    let sum = column_sum-insert column es k v sorted in
    let is = summed column h in
    let now = replaced column h in
    let alike = ap (amount_in column) same in
    let made = ap (column_sum column) e in omega (arith, found, sum, is, now, alike, made)

pub summed_removed : (C : ℕ) (before after : List ℕ) (es fs : Entries) (k : List ℕ) (old : Row) → IsSummed C before es
    → Some old ≡ lookup (is_at (key_cmp k)) es → fs ≡ remove_entry (is_at (key_cmp k)) es
    → ((column : ℕ) → column < C → slice_index after column + amount (column_of column old) ≡ slice_index before column)
    → IsSummed C after fs
summed_removed C before after es fs k old summed there e subtracted column h =
    let found = ap (λ (o : Option Row). unwrap_or (option_map (amount_in column) o) 0) there in
    let sum = column_sum-remove column es k in
    let is = summed column h in
    let now = subtracted column h in
    let made = ap (column_sum column) e in omega (arith, found, sum, is, now, made)

pub small_inserted : (C : ℕ) (es fs : Entries) (k : List ℕ) (v row : Row) → IsSmall C es → v ≡ row → fs ≡ insert_entry key_cmp es k v
    → ((column : ℕ) → column < C → amount (column_of column row) < 2 ^ 64) → IsSmall C fs
small_inserted C es fs k v row small same e fits column h =
    let P : Row → Type 0 = λ r. amount (column_of column r) < 2 ^ 64 in
    subst (λ (z : Entries). All P (values_of z)) (sym e)
    (All-values-insert_entry key_cmp k v P es (small column h) (subst P (sym same) (fits column h)))

pub small_removed : (C : ℕ) (es fs : Entries) (k : List ℕ) → IsSmall C es → fs ≡ remove_entry (is_at (key_cmp k)) es → IsSmall C fs
small_removed C es fs k small e column h =
    let P : Row → Type 0 = λ r. amount (column_of column r) < 2 ^ 64 in
    subst (λ (z : Entries). All P (values_of z)) (sym e)
    (All-map-remove_entry (is_at (key_cmp k)) (λ (pair : List ℕ × Row). pair.1) P es (small column h))

-- sums that are those of the columns from one on, listed
summed_from : (n column : ℕ) (sums : List ℕ) (es : Entries) → length sums ≡ n
    → ((i : ℕ) → i < n → slice_index sums i ≡ column_sum (column + i) es) → sums ≡ column_sums column n es
summed_from zero column [] es len h = refl
summed_from zero column (sum ∷ sums) es len h = absurd (omega arith)
summed_from (suc n) column [] es len h = absurd (omega arith)
summed_from (suc n) column (sum ∷ sums) es len h =
    let here : column + 0 ≡ column = omega arith in
    let head : sum ≡ column_sum column es = h 0 (omega arith) ∙ ap (λ c. column_sum c es) here in
    let tail = summed_from n (column + 1) sums es (omega arith) (λ i l. h (suc i) (omega arith) ∙ ap (λ c. column_sum c es) (next i)) in
    λ t. head t ∷ tail t
  where
    next : (i : ℕ) → column + suc i ≡ (column + 1) + i
    next i = omega arith

pub summed_all : (C : ℕ) (sums : List ℕ) (es : Entries) → length sums ≡ C → IsSummed C sums es → sums ≡ column_sums 0 C es
summed_all C sums es len h = summed_from C 0 sums es len (λ i l. h i l ∙ ap (λ c. column_sum c es) (from_zero i))
  where
    from_zero : (i : ℕ) → i ≡ 0 + i
    from_zero i = omega arith
