-- What is read of a machine keeps the limits of an index.
use Rattle.std.proofs.Common.{ℕ, ◌≡◌, ◌+◌, ◌-◌, ◌≤◌, inl, inr, Bool, true, false, List, [], ◌∷◌, map, length, take, drop, refl, sym, ap, subst, ◌∙◌, arith}
use Rattle.std.specs.Prelude.{Option, Some, None, IfSome, nat_lt, slice_range}
use Rattle.std.specs.Borrow.{Bor}
use Rattle.std.specs.FinMap.{get}
use Rattle.std.specs.List.{AllByRecursion, list_any}
use Rattle.std.specs.Option.{option_map, option_or}
use Rattle.std.proofs.lemmas.Bool.{le-ltb, ltb-false, or_parts}
use Rattle.std.proofs.lemmas.List.{length-take, length-map}
use Rattle.mt_types.specs.Limits.{columns_fault, key_fault, limit_fault, refused_if, request_fault}
use Rattle.mt_types.specs.Limited.{RowIsLimited, PairIsLimited, PairsAreLimited, FoundAreLimited}
use Rattle.mt_types.specs.Rows.{Rows, shown}
use Rattle.mt_types.specs.declared.event.Request.TheVariants.{Get}
use Rattle.mt_types.specs.declared.event.Answer.TheVariants.{Found}
use Rattle.mt_types.specs.declared.limits.TheConstants.{MAX_KEY_BYTES, MAX_RANGE}
use Rattle.mt_types.specs.declared.refusal.Refusal.TheVariants.{BadLimit, KeyTooLong}
use Rattle.mt_types.specs.declared.row.Row.{Row}
use Rattle.mt_promise.specs.History.{History, moment, rows}
use Rattle.mt_promise.proofs.LimitedLemmas.{plain_answers_are_limited}
use Rattle.mt_promise.proofs.RowLimits.{neither_of, not_refused, key_fits, limit_fits}
use Rattle.mt_index.specs.Stands.{MachineView, Stands}
use Rattle.mt_walk.specs.Gathered.{AreKeys, pairs_of}
use Rattle.mt_reads.specs.Counts.{gets_fault, keys_fault, rows_of}
use Rattle.mt_reads.specs.Ranges.{IsRangeBack, back_fault}

abbrev Shown : Type 0
Shown = List (List ℕ × Row)

abbrev pub AreShortPairs : Shown → Type 0
AreShortPairs pairs = AllByRecursion (λ (pair : List ℕ × Row). length pair.0 ≤ MAX_KEY_BYTES) pairs

-- ---- the keys that a range gathers
cut_short : (bytes : List ℕ) (begin end : ℕ) → end ≤ begin + MAX_KEY_BYTES → length (slice_range bytes begin end) ≤ MAX_KEY_BYTES
cut_short bytes begin end near = let cut = length-take (end - begin) (drop begin bytes) in omega (arith, near, cut)

pub short_pairs : (asked bytes : List ℕ) (begin : ℕ) (kept : List (ℕ × Bor Row)) → AreKeys bytes begin kept → AreShortPairs (pairs_of asked bytes begin kept)
short_pairs asked bytes begin [] keys = tt
short_pairs asked bytes begin (row ∷ kept) (from, to, near, more) = (cut_short bytes begin row.0 near, short_pairs asked bytes row.0 kept more)

-- ---- a row as it is shown
fits_limit : (key : List ℕ) → length key ≤ MAX_KEY_BYTES → key_fault key ≡ None
fits_limit key fits = ap (λ (b : Bool). refused_if b KeyTooLong) (le-ltb MAX_KEY_BYTES (length key) fits)

module _ (s : MachineView) (h : History) (stands : Stands s h) (asked : List ℕ) (named : columns_fault s.columns asked ≡ None) where
  row_limited : (key : List ℕ) (row : Row) → length key ≤ MAX_KEY_BYTES → get (rows s.columns (moment h)) key ≡ Some row → RowIsLimited (shown asked row)
  row_limited key row fits there =
      plain_answers_are_limited s.columns h (Get key asked) (Found (shown asked row)) stands.few stands.legal
      (ap (λ fault. option_or fault (columns_fault s.columns asked)) (fits_limit key fits) ∙ named) ((row, there, refl), refl)

  -- ---- the pairs of a range back
  pairs_limited : (before : Option (List ℕ)) (limit : ℕ) (pairs : Shown) → IsRangeBack (rows s.columns (moment h)) asked before limit pairs → AreShortPairs pairs
      → (length pairs ≤ limit) × AllByRecursion PairIsLimited pairs
  pairs_limited before limit [] range short = (omega arith, tt)
  pairs_limited before limit (pair ∷ pairs) (row, previous, is, some, range) (fits, short) =
      let more = pairs_limited (Some pair.0) (limit - 1) pairs range short in
      let few = more.0 in
      (omega (arith, some, few), ((fits, subst RowIsLimited (sym is) (row_limited pair.0 row fits previous.0)), more.1))

  -- ---- the rows of many keys
  long_ones : (keys : List (List ℕ)) → list_any (λ key. nat_lt MAX_KEY_BYTES (length key)) keys ≡ false → AllByRecursion (λ (row : Option Row). IfSome row RowIsLimited) (rows_of (rows s.columns (moment h)) asked keys)
  long_ones [] none = tt
  long_ones (key ∷ keys) none =
      let both = or_parts (nat_lt MAX_KEY_BYTES (length key)) (list_any (λ key. nat_lt MAX_KEY_BYTES (length key)) keys) none in
      (one (get (rows s.columns (moment h)) key) refl (ltb-false MAX_KEY_BYTES (length key) both.0), long_ones keys both.1)
    where
      one : (row : Option Row) → get (rows s.columns (moment h)) key ≡ row → length key ≤ MAX_KEY_BYTES → IfSome (option_map (shown asked) (get (rows s.columns (moment h)) key)) RowIsLimited
      one None has fits = subst (λ (r : Option Row). IfSome (option_map (shown asked) r) RowIsLimited) (sym has) tt
      one (Some row) has fits = subst (λ (r : Option Row). IfSome (option_map (shown asked) r) RowIsLimited) (sym has) (row_limited key row fits has)

pub back_limited : (s : MachineView) → ((h : History) × Stands s h) → (asked : List ℕ) (before : Option (List ℕ)) (limit : ℕ) (pairs : Shown) → back_fault s.columns before limit asked ≡ None
    → ((h : History) → Stands s h → IsRangeBack (rows s.columns (moment h)) asked before limit pairs) → AreShortPairs pairs → PairsAreLimited pairs
back_limited s (h, stands) asked before limit pairs within range short =
    let named = neither_of (columns_fault s.columns asked) (limit_fault limit) (neither_of _ _ within).1 in
    let most = limit_fits limit named.1 in
    let all = pairs_limited s h stands asked named.0 before limit pairs (range h stands) short in
    let few = all.0 in
    (omega (arith, most, few), all.1)

pub found_limited : (s : MachineView) → ((h : History) × Stands s h) → (asked : List ℕ) (keys : List (List ℕ)) (found : List (Option Row)) → gets_fault s.columns keys asked ≡ None
    → ((h : History) → Stands s h → found ≡ rows_of (rows s.columns (moment h)) asked keys) → FoundAreLimited found
found_limited s (h, stands) asked keys found within are =
    let limits = neither_of (keys_fault keys) _ within in
    let named = neither_of (columns_fault s.columns asked) _ limits.1 in
    let few : length keys ≤ MAX_RANGE = ltb-false MAX_RANGE (length keys) (not_refused (nat_lt MAX_RANGE (length keys)) BadLimit named.1) in
    let many = length-map keys (λ key. option_map (shown asked) (get (rows s.columns (moment h)) key)) in
    subst FoundAreLimited (sym (are h stands))
    (omega (arith, few, many), long_ones s h stands asked named.0 keys (not_refused _ KeyTooLong limits.0))
