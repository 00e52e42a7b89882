-- The changes of a batch of which none breaks a limit, and no key is changed twice.
use Rattle.std.proofs.Common.{◌≡◌, ◌≢◌, ◌<◌, ◌≤◌, ◌+◌, ◌⊎◌, ℕ, Bool, true, false, zero, suc, List, [], ◌∷◌, ◌++◌, length, map, drop, take, slice_index_or, Option, Some, None, refl, sym, ap, subst, ◌∙◌, inl, inr, arith, length-append}
use Rattle.std.proofs.Common.{BTreeSet}
use Rattle.std.specs.Borrow.{Bor}
use Rattle.std.specs.BTreeMap.{is_at}
use Rattle.std.specs.declared.cmp.Ordering.{Ordering}
use Rattle.std.specs.Prelude.{◌↔◌, ◌||◌, if◌then◌else◌, nat_lt, Contains, not, slice_get, Result, Ok, Err, OnOk}
use Rattle.std.specs.Result.{IsErr}
use Rattle.std.specs.BTreeSet.{contains}
use Rattle.std.specs.Ordering.{eq_by_cmp}
use Rattle.std.specs.Option.{option_map, option_or}
use Rattle.std.specs.FinMap.{get}
use Rattle.std.specs.List.{AllByRecursion, list_any}
use Rattle.std.proofs.lemmas.Bool.{false≢true}
use Rattle.std.proofs.lemmas.List.{append_assoc, map-append, take_all, take_more, take-append-drop}
use Rattle.std.proofs.lemmas.List.Elements.{Contains-append_cases, Contains-append_left, Contains-append_right}
use Rattle.mt_types.specs.Keys.{key_cmp}
use Rattle.mt_types.specs.Limits.{key_fault, request_fault}
use Rattle.mt_promise.proofs.RowLimits.{key_fits}
use Rattle.mt_types.specs.Rows.{Rows}
use Rattle.mt_types.specs.declared.limits.TheConstants.{MAX_KEY_BYTES}
use Rattle.mt_types.specs.declared.refusal.Refusal.{Refusal}
use Rattle.mt_types.specs.declared.row.Row.{Row}
use Rattle.mt_types.specs.declared.row.Change.{Change as RowChange}
use Rattle.mt_types.specs.declared.row.Change.TheVariants as made
use Rattle.mt_asked.specs.Borrowed.{sets_of}
use Rattle.mt_undo.specs.Removing.{AreApart, AreThere, Taken}
use Rattle.mt_undo.specs.Undoing.{IsPut}
use Rattle.mt_undo.proofs.UndoLemmas.{same_last, same_or_not}
use Rattle.mt_batch.specs.declared.batch.Change.{Change}
use Rattle.mt_batch.specs.declared.batch.Change.TheVariants.{Put, Remove}
use Rattle.mt_batch.specs.Batch.{batch_fault, changes_fault, conditions_fault}
use Rattle.mt_batch.specs.declared.batch.BatchError.{BatchError}
use Rattle.mt_batch.specs.declared.batch.BatchError.TheVariants.{BadBatch, Refused}
use Rattle.mt_batch.specs.declared.batch.TheConstants.{MAX_BATCH}
use Rattle.mt_batch.specs.declared.batch.Condition.{Condition}
use Rattle.mt_batch.specs.Changes.{IsTwice, key_of, puts_of, removed_keys, request_of_change, taken_at, taken_of}

-- ---- limits
pub first_none : (a b : Option Refusal) → option_or a b ≡ None → a ≡ None
first_none None b is = refl
first_none (Some refusal) b is = absurd (let clash : ◌≡◌ {A = Option Refusal} (Some refusal) None = is in cc)

pub then_none : (a b : Option Refusal) → option_or a b ≡ None → b ≡ None
then_none None b is = is
then_none (Some refusal) b is = absurd (let clash : ◌≡◌ {A = Option Refusal} (Some refusal) None = is in cc)

-- neither conditions nor changes of a batch that breaks no limit break one
unbroken : (b : Bool) (fault : Option Refusal) → (if b then Some BadBatch else option_map Refused fault) ≡ None → fault ≡ None
unbroken true fault is = absurd (let clash : ◌≡◌ {A = Option BatchError} (Some BadBatch) None = is in cc)
unbroken false None is = refl
unbroken false (Some refusal) is = absurd (let clash : ◌≡◌ {A = Option BatchError} (Some (Refused refusal)) None = is in cc)

pub both_fit : (C : ℕ) (conditions : List Condition) (changes : List Change) → batch_fault C conditions changes ≡ None → (conditions_fault conditions ≡ None) × (changes_fault C changes ≡ None)
both_fit C conditions changes none =
    let neither = unbroken (nat_lt MAX_BATCH (length conditions) || nat_lt MAX_BATCH (length changes)) (option_or (conditions_fault conditions) (changes_fault C changes)) none in
    (first_none (conditions_fault conditions) (changes_fault C changes) neither, then_none (conditions_fault conditions) (changes_fault C changes) neither)

-- the key of a change that breaks no limit is short enough
pub key_fits_of : (C : ℕ) (change : Change) → request_fault C (request_of_change change) ≡ None → length (key_of change) ≤ MAX_KEY_BYTES
key_fits_of C (Put key sets) is = key_fits key.now (first_none (key_fault key.now) _ is)
key_fits_of C (Remove key) is = key_fits key.now is

pub change_fits : (C : ℕ) (changes : List Change) (i : ℕ) (change : Change) → changes_fault C changes ≡ None → slice_get changes i ≡ Some change → length (key_of change) ≤ MAX_KEY_BYTES
change_fits C [] i change none is = absurd (let clash : ◌≡◌ {A = Option Change} None (Some change) = is in cc)
change_fits C (c ∷ changes) zero change none is =
    let same : c ≡ change = cc in
    subst (λ (x : Change). length (key_of x) ≤ MAX_KEY_BYTES) same (key_fits_of C c (first_none _ (changes_fault C changes) none))
change_fits C (c ∷ changes) (suc i) change none is = change_fits C changes i change (then_none (request_fault C (request_of_change c)) (changes_fault C changes) none) is

-- what holds of a key with its row, if it has one
taken_all : (P : Taken → Type 0) (key : List ℕ) (row : Option Row) (rest : List Taken) → ((row : Row) → P (key, row)) → AllByRecursion P rest → AllByRecursion P (taken_at key row ++ rest)
taken_all P key None rest one all = all
taken_all P key (Some row) rest one all = (one row, all)

pub taken_fit : (C : ℕ) (rows : Rows) (changes : List Change) → changes_fault C changes ≡ None → AllByRecursion (λ (t : Taken). length t.0 ≤ MAX_KEY_BYTES) (taken_of rows changes)
taken_fit C rows [] none = tt
taken_fit C rows (Put key sets ∷ changes) none = taken_fit C rows changes (then_none (request_fault C (request_of_change (Put key sets))) (changes_fault C changes) none)
taken_fit C rows (Remove key ∷ changes) none =
    taken_all (λ (t : Taken). length t.0 ≤ MAX_KEY_BYTES) key.now (get rows key.now) (taken_of rows changes) (λ row. key_fits_of C (Remove key) (first_none _ (changes_fault C changes) none))
    (taken_fit C rows changes (then_none (request_fault C (request_of_change (Remove key))) (changes_fault C changes) none))

-- each has its row
there_more : (rows : Rows) (key : List ℕ) (row : Option Row) (rest : List Taken) → get rows key ≡ row → AreThere rows rest → AreThere rows (taken_at key row ++ rest)
there_more rows key None rest is all = all
there_more rows key (Some row) rest is all = (is, all)

pub taken_there : (rows : Rows) (changes : List Change) → AreThere rows (taken_of rows changes)
taken_there rows [] = tt
taken_there rows (Put key sets ∷ changes) = taken_there rows changes
taken_there rows (Remove key ∷ changes) = there_more rows key.now (get rows key.now) (taken_of rows changes) refl (taken_there rows changes)

-- ---- no key is changed twice
contains_here : (key : List ℕ) (keys : List (List ℕ)) → Contains (key ∷ keys) key
contains_here key keys = (0, (let e : 0 < suc (length keys) = omega arith in e), refl)

contains_there : (first : List ℕ) (keys : List (List ℕ)) (key : List ℕ) → Contains keys key → Contains (first ∷ keys) key
contains_there first keys key (k, within, is) = (suc k, (let e : suc k < suc (length keys) = omega (arith, within) in e), is)

contains_split : (keys : List (List ℕ)) (key : List ℕ) → Contains keys key → (before later : List (List ℕ)) × (keys ≡ before ++ key ∷ later)
contains_split [] key (k, within, is) = absurd (omega (arith, within))
contains_split (first ∷ keys) key (zero, within, is) = ([], keys, ap (λ (k : List ℕ). k ∷ keys) is)
contains_split (first ∷ keys) key (suc k, within, is) =
    let (before, later, rest) = contains_split keys key (k, (omega (arith, within)), is) in
    (first ∷ before, later, ap (λ (l : List (List ℕ)). first ∷ l) rest)

-- if a key is changed first, and again later, it is changed twice
twice_first : (key : List ℕ) (keys : List (List ℕ)) → Contains keys key → IsTwice (key ∷ keys)
twice_first key keys there =
    let (before, later, is) = contains_split keys key there in
    (key ∷ before, later, key, ap (λ (l : List (List ℕ)). key ∷ l) is, contains_here key before)

twice_later : (key : List ℕ) (keys : List (List ℕ)) → IsTwice keys → IsTwice (key ∷ keys)
twice_later key keys (before, later, other, is, there) = (key ∷ before, later, other, ap (λ (l : List (List ℕ)). key ∷ l) is, contains_there key before other there)

-- a row that is taken away is of a key that is changed
taken_apart : (rows : Rows) (changes : List Change) (key : List ℕ) → (Contains (map key_of changes) key → ⊥) → AllByRecursion (λ (other : Taken). other.0 ≢ key) (taken_of rows changes)
taken_apart rows [] key none = tt
taken_apart rows (Put k sets ∷ changes) key none = taken_apart rows changes key (λ there. none (contains_there k.now (map key_of changes) key there))
taken_apart rows (Remove k ∷ changes) key none =
    taken_all (λ (other : Taken). other.0 ≢ key) k.now (get rows k.now) (taken_of rows changes)
    (λ row same. none (subst (λ (x : List ℕ). Contains (k.now ∷ map key_of changes) x) same (contains_here k.now (map key_of changes))))
    (taken_apart rows changes key (λ there. none (contains_there k.now (map key_of changes) key there)))

apart_more : (key : List ℕ) (row : Option Row) (rest : List Taken) → AllByRecursion (λ (other : Taken). other.0 ≢ key) rest → AreApart rest → AreApart (taken_at key row ++ rest)
apart_more key None rest others all = all
apart_more key (Some row) rest others all = (others, all)

pub all_apart : (rows : Rows) (changes : List Change) → (IsTwice (map key_of changes) → ⊥) → AreApart (taken_of rows changes)
all_apart rows [] once = tt
all_apart rows (Put key sets ∷ changes) once = all_apart rows changes (λ twice. once (twice_later key.now (map key_of changes) twice))
all_apart rows (Remove key ∷ changes) once =
    apart_more key.now (get rows key.now) (taken_of rows changes) (taken_apart rows changes key.now (λ there. once (twice_first key.now (map key_of changes) there)))
    (all_apart rows changes (λ twice. once (twice_later key.now (map key_of changes) twice)))

-- ---- conditions
pub condition_fits : (conditions : List Condition) (i : ℕ) (condition : Condition) → conditions_fault conditions ≡ None → slice_get conditions i ≡ Some condition → length condition.key.now ≤ MAX_KEY_BYTES
condition_fits [] i condition none is = absurd (let clash : ◌≡◌ {A = Option Condition} None (Some condition) = is in cc)
condition_fits (c ∷ conditions) zero condition none is =
    let same : c ≡ condition = cc in
    subst (λ (x : Condition). length x.key.now ≤ MAX_KEY_BYTES) same (key_fits c.key.now (first_none (key_fault c.key.now) (conditions_fault conditions) none))
condition_fits (c ∷ conditions) (suc i) condition none is = condition_fits conditions i condition (then_none (key_fault c.key.now) (conditions_fault conditions) none) is

-- ---- the first of a list
one_more : {A : Type 0} (P : A → Type 0) (l : List A) (i : ℕ) (d : A) → i < length l → AllByRecursion P (take i l) → P (slice_index_or l i d) → AllByRecursion P (take (suc i) l)
one_more P [] i d within all new = tt
one_more P (x ∷ l) zero d within all new = (new, tt)
one_more P (x ∷ l) (suc i) d within all new = (all.0, one_more P l i d (omega (arith, within)) all.1 new)

pub all_more : {A : Type 0} (P : A → Type 0) (l : List A) (i : ℕ) (d : A) → i < length l → AllByRecursion P (take i l) → P (slice_index_or l i d) → AllByRecursion P (take (i + 1) l)
all_more P l i d within all new = let e : suc i ≡ i + 1 = omega arith in subst (λ (n : ℕ). AllByRecursion P (take n l)) e (one_more P l i d within all new)

pub all_whole : {A : Type 0} (P : A → Type 0) (l : List A) (i : ℕ) → length l ≤ i → AllByRecursion P (take i l) → AllByRecursion P l
all_whole P [] i past all = tt
all_whole P (x ∷ l) zero past all = absurd (omega (arith, past))
all_whole P (x ∷ l) (suc i) past all = (all.0, all_whole P l i (omega (arith, past)) all.1)

-- ---- the puts, one after the other
pub puts-append : (xs ys : List Change) → puts_of (xs ++ ys) ≡ puts_of xs ++ puts_of ys
puts-append [] ys = refl
puts-append (Put key sets ∷ xs) ys = ap (λ (l : List RowChange). made.Put key.now (sets_of sets.now) ∷ l) (puts-append xs ys)
puts-append (Remove key ∷ xs) ys = puts-append xs ys

pub puts_more : (l : List Change) (i : ℕ) (d : Change) → i < length l → puts_of (take (i + 1) l) ≡ puts_of (take i l) ++ puts_of (slice_index_or l i d ∷ [])
puts_more l i d within = ap puts_of (take_more l i d within) ∙ puts-append (take i l) (slice_index_or l i d ∷ [])

pub puts_whole : (l : List Change) (i : ℕ) → length l ≤ i → puts_of (take i l) ≡ puts_of l
puts_whole l i past = ap puts_of (take_all i l past)

pub are_puts : (changes : List Change) → AllByRecursion IsPut (puts_of changes)
are_puts [] = tt
are_puts (Put key sets ∷ changes) = (tt, are_puts changes)
are_puts (Remove key ∷ changes) = are_puts changes

-- ---- keys that are changed twice
keys_more : (l : List Change) (i : ℕ) (d : Change) → i < length l → map key_of (take (i + 1) l) ≡ map key_of (take i l) ++ key_of (slice_index_or l i d) ∷ []
keys_more l i d within = ap (λ (cs : List Change). map key_of cs) (take_more l i d within) ∙ map-append key_of (take i l) (slice_index_or l i d ∷ [])

-- a key that is among those before it
pub twice_found : (l : List Change) (i : ℕ) (d : Change) → i < length l → Contains (map key_of (take i l)) (key_of (slice_index_or l i d)) → IsTwice (map key_of l)
twice_found l i d within there = (
  map key_of (take i l),
  map key_of (drop (i + 1) l),
  key_of (slice_index_or l i d),
  ap (λ (cs : List Change). map key_of cs) (sym (take-append-drop (i + 1) l))
      ∙ map-append key_of (take (i + 1) l) (drop (i + 1) l)
      ∙ ap (λ (ks : List (List ℕ)). ks ++ map key_of (drop (i + 1) l)) (keys_more l i d within)
      ∙ append_assoc (map key_of (take i l)) (key_of (slice_index_or l i d) ∷ []) (map key_of (drop (i + 1) l)),
  there,
)

snoc : {A : Type 0} (xs : List A) → (xs ≡ []) ⊎ ((init : List A) × (x : A) × (xs ≡ init ++ x ∷ []))
snoc [] = inl refl
snoc (x ∷ xs) = elim (snoc xs) [
  | inl none ↦ inr ([], x, ap (λ (l : List _). x ∷ l) none)
  | inr (init, last, is) ↦ inr (x ∷ init, last, ap (λ (l : List _). x ∷ l) is)
]

-- one key more that isn't among them
once_more : (keys : List (List ℕ)) (key : List ℕ) → (IsTwice keys → ⊥) → (Contains keys key → ⊥) → IsTwice (keys ++ key ∷ []) → ⊥
once_more keys key once new (before, later, other, is, there) = elim (snoc later) [
  | inl none ↦ (
      let both = same_last keys before key other (is ∙ ap (λ (l : List (List ℕ)). before ++ other ∷ l) none) in
      new (subst (λ (k : List ℕ). Contains keys k) (sym both.1) (subst (λ (l : List (List ℕ)). Contains l other) (sym both.0) there)))
  | inr (init, last, some) ↦ (
      let both = same_last keys (before ++ other ∷ init) key last (is ∙ ap (λ (l : List (List ℕ)). before ++ other ∷ l) some ∙ sym (append_assoc before (other ∷ init) (last ∷ []))) in
      once (before, init, other, both.0, there))
]

pub once_on : (l : List Change) (i : ℕ) (d : Change) → i < length l → (IsTwice (map key_of (take i l)) → ⊥) → (Contains (map key_of (take i l)) (key_of (slice_index_or l i d)) → ⊥) → IsTwice (map key_of (take (i + 1) l)) → ⊥
once_on l i d within once new twice = once_more (map key_of (take i l)) (key_of (slice_index_or l i d)) once new (subst IsTwice (keys_more l i d within) twice)

pub once_whole : (l : List Change) (i : ℕ) → length l ≤ i → (IsTwice (map key_of (take i l)) → ⊥) → IsTwice (map key_of l) → ⊥
once_whole l i past once twice = once (subst (λ (cs : List Change). IsTwice (map key_of cs)) (sym (take_all i l past)) twice)

-- a set that has these keys, and one that has the next key too
abbrev pub by_bytes : Bor (List ℕ) → Bor (List ℕ) → Ordering
by_bytes one other = key_cmp one.now other.now

abbrev pub HasKeys : BTreeSet (Bor (List ℕ)) → List (List ℕ) → Type 0
HasKeys seen keys = (q : Bor (List ℕ)) → (contains by_bytes seen q ≡ true) ↔ Contains keys q.now

contains_same : (seen : BTreeSet (Bor (List ℕ))) (k q : Bor (List ℕ)) → k.now ≡ q.now → contains by_bytes seen k ≡ true → contains by_bytes seen q ≡ true
contains_same seen k q same there = subst (λ (bytes : List ℕ). list_any (is_at (λ (y : Bor (List ℕ)). key_cmp bytes y.now)) seen.keys ≡ true) same there

module _ (seen new : BTreeSet (Bor (List ℕ))) (keys : List (List ℕ)) (key : Bor (List ℕ)) (own : contains by_bytes new key ≡ true)
    (others : (q : Bor (List ℕ)) → eq_by_cmp by_bytes key q ≡ false → contains by_bytes new q ≡ contains by_bytes seen q) (has : HasKeys seen keys) where
  keys_with : HasKeys new (keys ++ key.now ∷ [])
  keys_with q = elim (same_or_not key.now q.now) [
    | inl same ↦ (
      (λ there. Contains-append_right keys (key.now ∷ []) q.now (subst (λ (k : List ℕ). Contains (k ∷ []) q.now) (sym same) (contains_here q.now []))),
      (λ there. contains_same new key q same own),
    )
    | inr apart ↦ (
      (λ there. Contains-append_left keys (key.now ∷ []) q.now ((has q).0 (sym (others q apart.0) ∙ there))),
      (λ there. elim (Contains-append_cases keys (key.now ∷ []) q.now there) [
        | inl before ↦ others q apart.0 ∙ (has q).1 before
        | inr last ↦ absurd (apart.1 (only key.now q.now last))
      ]),
    )
  ]
    where
      only : (k q : List ℕ) → Contains (k ∷ []) q → k ≡ q
      only k q (zero, within, is) = is
      only k q (suc n, within, is) = absurd (omega (arith, within))

-- of no change none is made twice
pub once_none : IsTwice [] → ⊥
once_none (before, later, key, is, there) = let long : 0 ≡ length (before ++ key ∷ later) = ap length is in let two = length-append before (key ∷ later) in omega (arith, long, two)

-- ---- one key of the loop
module _ (l : List Change) (i : ℕ) (d : Change) (within : i < length l) (key : Bor (List ℕ)) (same : key.now ≡ key_of (slice_index_or l i d)) (seen : BTreeSet (Bor (List ℕ))) (has : HasKeys seen (map key_of (take i l))) where
  pub found_twice : contains by_bytes seen key ≡ true → IsTwice (map key_of l)
  found_twice there = twice_found l i d within (subst (λ (k : List ℕ). Contains (map key_of (take i l)) k) same ((has key).0 there))

  pub still_once : contains by_bytes seen key ≡ false → (IsTwice (map key_of (take i l)) → ⊥) → IsTwice (map key_of (take (i + 1) l)) → ⊥
  still_once new once = once_on l i d within once (λ there. false≢true (sym new ∙ (has key).1 (subst (λ (k : List ℕ). Contains (map key_of (take i l)) k) (sym same) there)))

  pub one_key_more : (with_it : BTreeSet (Bor (List ℕ))) → contains by_bytes with_it key ≡ true → ((q : Bor (List ℕ)) → eq_by_cmp by_bytes key q ≡ false → contains by_bytes with_it q ≡ contains by_bytes seen q)
      → HasKeys with_it (map key_of (take (i + 1) l))
  one_key_more with_it own others =
      subst (λ (ks : List (List ℕ)). HasKeys with_it ks) (ap (λ (k : List ℕ). map key_of (take i l) ++ k ∷ []) same ∙ sym (keys_more l i d within))
      (keys_with seen with_it (map key_of (take i l)) key own others has)

pub not_false : (b : Bool) → not b ≡ false → b ≡ true
not_false true is = refl
not_false false is = absurd (let clash : true ≡ false = is in cc)

pub not_true : (b : Bool) → not b ≡ true → b ≡ false
not_true false is = refl
not_true true is = absurd (let clash : false ≡ true = is in cc)

-- ---- the keys of removes
removed-append : (xs ys : List Change) → removed_keys (xs ++ ys) ≡ removed_keys xs ++ removed_keys ys
removed-append [] ys = refl
removed-append (Put key sets ∷ xs) ys = removed-append xs ys
removed-append (Remove key ∷ xs) ys = ap (λ (keys : List (List ℕ)). key.now ∷ keys) (removed-append xs ys)

-- one more change is looked at
pub one_place_more : (xs : List Change) (i : ℕ) (d : Change) (before later : List (List ℕ)) → i < length xs
    → before ≡ removed_keys (take i xs) → later ≡ before ++ removed_keys (slice_index_or xs i d ∷ [])
    → later ≡ removed_keys (take (i + 1) xs)
one_place_more xs i d before later within is added =
    added ∙ ap (λ (keys : List (List ℕ)). keys ++ removed_keys (slice_index_or xs i d ∷ [])) is
    ∙ sym (removed-append (take i xs) (slice_index_or xs i d ∷ [])) ∙ ap removed_keys (sym (take_more xs i d within))

-- ---- results

-- a result that is an error
pub on_err : (Q : Type 0) (r : Result (Unit {0}) Refusal) → IsErr r → OnOk r Q
on_err Q (Ok done) is = absurd (let clash : false ≡ true = is in cc)
on_err Q (Err refusal) is = tt
