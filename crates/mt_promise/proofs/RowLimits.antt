-- How large the rows are: each row of a key was made by puts that kept the limits.
use Rattle.std.proofs.Common.{◌≡◌, ◌≤◌, ◌<◌, ◌+◌, ◌==◌, ◌&&◌, ◌||◌, ℕ, zero, suc, Bool, true, false, T, cond, not, eqb, List, ◌∷◌, ◌++◌, map, length, replicate, Option, Some, None, ◌∙◌, ap, sym, subst, refl, inl, inr, arith, []}
use Rattle.std.specs.Prelude.{if◌then◌else◌, nat_lt, nat_le, take, filter, slice_index_or}
use Rattle.std.specs.List.{AllByRecursion, list_any, IsDistinct}
use Rattle.std.specs.Option.{option_or}
use Rattle.std.specs.declared.cmp.Ordering.{Ordering}
use Rattle.std.specs.declared.cmp.Ordering.TheVariants.{Less, Equal, Greater}
use Rattle.std.specs.Ordering.{is_eq}
use Rattle.std.specs.Cmp.{IsTotalOrder}
use Rattle.std.specs.Cmp.Lexicographic.{nat_list_cmp_total}
use Rattle.std.specs.FinMap as fin
use Rattle.std.specs.FinMap.{get}
use Rattle.std.proofs.lemmas.Bool.{ltb-false, leb-false, leb-true}
use Rattle.std.proofs.lemmas.Bool.Decides.{eqb_tells}
use Rattle.std.proofs.lemmas.List.{length-map, length-replicate}
use Rattle.std.proofs.lemmas.Map.Steps.{length-le_from_distinct_below}
use Rattle.mt_types.specs.Keys.{key_cmp}
use Rattle.mt_types.specs.Rows.{Rows, new_bytes, new_columns, columns_before, after, after_from, after_change, shown}
use Rattle.mt_types.specs.Limits.{refused_if, key_fault, columns_fault, misnames, limit_fault}
use Rattle.mt_types.specs.Limited.{ColumnIsLimited, RowIsLimited}
use Rattle.mt_types.specs.declared.limits.TheConstants.{MAX_KEY_BYTES, MAX_COLUMNS, MAX_COLUMN_BYTES, MAX_RANGE}
use Rattle.mt_types.specs.declared.row.Row.{Row}
use Rattle.mt_types.specs.declared.row.Change.{Change}
use Rattle.mt_types.specs.declared.row.Change.TheVariants.{Put as PutChange, Drop}
use Rattle.mt_types.specs.declared.refusal.Refusal.{Refusal}

-- ---- tests that pass
or_neither : (a b : Bool) → (a || b) ≡ false → (a ≡ false) × (b ≡ false)
or_neither true b e = absurd (cc)
or_neither false b e = (refl, e)

pub and_first : (a b : Bool) → T (a && b) → T a
and_first true b h = tt
and_first false b h = absurd h

pub and_second : (a b : Bool) → T (a && b) → T b
and_second true b h = h
and_second false b h = absurd h

pub and_true : (a b : Bool) → (a && b) ≡ true → (a ≡ true) × (b ≡ true)
and_true true b e = (refl, e)
and_true false b e = absurd (cc)

pub not_refused : (b : Bool) (refusal : Refusal) → refused_if b refusal ≡ None → b ≡ false
not_refused true refusal e = absurd (cc)
not_refused false refusal e = refl

pub not_not : (b : Bool) → not b ≡ false → b ≡ true
not_not true e = refl
not_not false e = absurd (cc)

pub neither_of : (a b : Option Refusal) → option_or a b ≡ None → (a ≡ None) × (b ≡ None)
neither_of None b e = (refl, e)
neither_of (Some refusal) b e = absurd (cc)

pub key_fits : (key : List ℕ) → key_fault key ≡ None → length key ≤ MAX_KEY_BYTES
key_fits key e = ltb-false MAX_KEY_BYTES (length key) (not_refused _ _ e)

pub none_long : (sets : List (ℕ × List ℕ)) → list_any (λ set. nat_lt MAX_COLUMN_BYTES (length set.1)) sets ≡ false → AllByRecursion (λ set. ColumnIsLimited set.1) sets
none_long [] e = tt
none_long (set ∷ sets) e =
    let both = or_neither (nat_lt MAX_COLUMN_BYTES (length set.1)) (list_any (λ s. nat_lt MAX_COLUMN_BYTES (length s.1)) sets) e in
    (ltb-false MAX_COLUMN_BYTES (length set.1) both.0, none_long sets both.1)

pub limit_fits : (limit : ℕ) → limit_fault limit ≡ None → limit ≤ MAX_RANGE
limit_fits limit e =
    let within = and_true (nat_le 1 limit) (nat_le limit MAX_RANGE) (not_not _ (not_refused _ _ e)) in
    leb-true limit MAX_RANGE within.1

-- ---- columns that are named once each, and are there, are few
others_apart : (column : ℕ) (columns : List ℕ) → list_any (λ other. other == column) columns ≡ false → AllByRecursion (λ other. eqb column other ≡ false) columns
others_apart column [] e = tt
others_apart column (other ∷ columns) e =
    let both = or_neither (other == column) (list_any (λ x. x == column) columns) e in (
      elim (eqb_tells column other) [
        | inl same ↦ absurd (let clash : eqb other other ≡ false = subst (λ (n : ℕ). eqb other n ≡ false) same.1 both.0 in elim (eqb_tells other other) [ inl p ↦ (let k : true ≡ false = sym p.0 ∙ clash in cc) | inr p ↦ p.1 refl ])
        | inr apart ↦ apart.0
      ],
      others_apart column columns both.1,
    )

distinct : (C : ℕ) (columns : List ℕ) → misnames C columns ≡ false → IsDistinct eqb columns
unfolding IsDistinct
distinct C [] e = tt
distinct C (column ∷ columns) e =
    let both = or_neither (nat_le C column || list_any (λ other. other == column) columns) (misnames C columns) e in
    let here = or_neither (nat_le C column) (list_any (λ other. other == column) columns) both.0 in
    (others_apart column columns here.1, distinct C columns both.1)

below : (C : ℕ) (columns : List ℕ) → misnames C columns ≡ false → (q : ℕ) → list_any (eqb q) columns ≡ true → q < C
below C [] e q has = absurd (cc)
below C (column ∷ columns) e q has =
    let both = or_neither (nat_le C column || list_any (λ other. other == column) columns) (misnames C columns) e in
    let here = or_neither (nat_le C column) (list_any (λ other. other == column) columns) both.0 in
    elim (eqb_tells q column) [
      | inl same ↦ subst (λ (n : ℕ). n < C) (sym same.1) (leb-false C column here.0)
      | inr apart ↦ below C columns both.1 q (sym (ap (λ (b : Bool). b || list_any (eqb q) columns) apart.0) ∙ has)
    ]

asked_few : (C : ℕ) (asked : List ℕ) → columns_fault C asked ≡ None → length asked ≤ C
asked_few C asked e =
    let named = not_refused _ _ e in
    length-le_from_distinct_below asked C (distinct C asked named) (below C asked named)

-- ---- the columns of a row
abbrev pub AreShort : List (List ℕ) → Type 0
AreShort columns = AllByRecursion ColumnIsLimited columns

pick : (b : Bool) (x y : List ℕ) → ColumnIsLimited x → ColumnIsLimited y → ColumnIsLimited (if b then x else y)
pick true x y short long = short
pick false x y short long = long

new_short : (sets : List (ℕ × List ℕ)) (i : ℕ) (old : List ℕ) → AllByRecursion (λ set. ColumnIsLimited set.1) sets → ColumnIsLimited old → ColumnIsLimited (new_bytes sets i old)
new_short [] i old all short = short
new_short (set ∷ sets) i old all short = pick (set.0 == i) set.1 (new_bytes sets i old) all.0 (new_short sets i old all.1 short)

as_many : (sets : List (ℕ × List ℕ)) (i : ℕ) (olds : List (List ℕ)) → length (new_columns sets i olds) ≡ length olds
as_many sets i [] = refl
as_many sets i (old ∷ olds) = ap suc (as_many sets (i + 1) olds)

all_short : (sets : List (ℕ × List ℕ)) (i : ℕ) (olds : List (List ℕ)) → AllByRecursion (λ set. ColumnIsLimited set.1) sets → AreShort olds → AreShort (new_columns sets i olds)
all_short sets i [] all short = tt
all_short sets i (old ∷ olds) all short = (new_short sets i old all short.0, all_short sets (i + 1) olds all short.1)

empty_short : (C : ℕ) → AreShort (replicate C [])
empty_short zero = tt
empty_short (suc n) = (omega arith, empty_short n)

short_at : (columns : List (List ℕ)) (k : ℕ) → AreShort columns → ColumnIsLimited (slice_index_or columns k [])
short_at [] k short = omega arith
short_at (column ∷ columns) zero short = short.0
short_at (column ∷ columns) (suc k) short = short_at columns k short.1

chosen_short : (columns : List (List ℕ)) (asked : List ℕ) → AreShort columns → AreShort (map (λ k. slice_index_or columns k []) asked)
chosen_short columns [] short = tt
chosen_short columns (k ∷ asked) short = (short_at columns k short, chosen_short columns asked short)

-- a row of an index of C columns, under a key
pub record IsKept (C : ℕ) (key : List ℕ) (row : Row) : Type 0 where
  pub fits : length key ≤ MAX_KEY_BYTES
  pub many : length row.columns ≡ C
  pub short : AreShort row.columns

pub shown_limited : (C : ℕ) (asked : List ℕ) (row : Row) → C ≤ MAX_COLUMNS → columns_fault C asked ≡ None → length row.columns ≡ C → AreShort row.columns → RowIsLimited (shown asked row)
shown_limited C [] row few named many short = (omega (arith, few, many), short)
shown_limited C (i ∷ asked) row few named many short =
    let chosen_few = asked_few C (i ∷ asked) named in
    let as_asked = length-map (i ∷ asked) (λ (k : ℕ). slice_index_or row.columns k []) in
    (omega (arith, few, chosen_few, as_asked), chosen_short row.columns (i ∷ asked) short)

-- ---- the rows
abbrev pub AreKept : ℕ → Rows → Type 0
AreKept C rs = (key : List ℕ) (row : Row) → get rs key ≡ Some row → IsKept C key row

pub key_order : IsTotalOrder key_cmp
key_order = nat_list_cmp_total

pub key_apart : fin.IsAntisymmetric key_cmp
key_apart = fin.slice_cmp-IsAntisymmetric fin.nat_cmp-IsAntisymmetric

-- a change that kept the limits
abbrev pub ChangeIsLimited : Change → Type 0
ChangeIsLimited (PutChange key sets) = (length key ≤ MAX_KEY_BYTES) × AllByRecursion (λ set. ColumnIsLimited set.1) sets
ChangeIsLimited (Drop key) = Unit {0}

old_columns : (C : ℕ) (key : List ℕ) (old : Option Row) → ((row : Row) → old ≡ Some row → IsKept C key row) → (length (columns_before C old) ≡ C) × AreShort (columns_before C old)
old_columns C key None kept = (length-replicate C [], empty_short C)
old_columns C key (Some row) kept = let k = kept row refl in (k.many, k.short)

changed_kept : (C number : ℕ) (change : Change) (rs : Rows) → AreKept C rs → ChangeIsLimited change → AreKept C (after_change C number change rs)
changed_kept C number (PutChange key sets) rs kept limited = λ q row at.
    let put : Row = record { version = number; columns = new_columns sets 0 (columns_before C (get rs key)) } in
    let old = old_columns C key (get rs key) (λ r is. kept key r is) in
    let is_kept : IsKept C key put = record { fits = limited.0; many = as_many sets 0 (columns_before C (get rs key)) ∙ old.0; short = all_short sets 0 (columns_before C (get rs key)) limited.1 old.1 } in
    let found = sym (fin.get-insert key_order rs key put q) ∙ at in
    by_key q row put is_kept (key_cmp q key) refl found
  where
    by_key : (q : List ℕ) (row put : Row) → IsKept C key put → (o : Ordering) → key_cmp q key ≡ o → cond (is_eq o) (Some put) (get rs q) ≡ Some row → IsKept C q row
    by_key q row put is_kept Less is found = kept q row found
    by_key q row put is_kept Equal is found =
        let same : put ≡ row = cc in
        let as_row = subst (λ (r : Row). IsKept C key r) same is_kept in
        subst (λ (k : List ℕ). IsKept C k row) (sym (key_apart q key is)) as_row
    by_key q row put is_kept Greater is found = kept q row found
changed_kept C number (Drop key) rs kept limited = λ q row at.
    by_key q row (key_cmp q key) refl (sym (fin.get-remove key_order rs key q) ∙ at)
  where
    by_key : (q : List ℕ) (row : Row) (o : Ordering) → key_cmp q key ≡ o → cond (is_eq o) None (get rs q) ≡ Some row → IsKept C q row
    by_key q row Less is found = kept q row found
    by_key q row Equal is found = absurd (let clash : ◌≡◌ {A = Option Row} None (Some row) = found in cc)
    by_key q row Greater is found = kept q row found

-- these changes make such rows, one after the other
changes_kept : (C number : ℕ) (rs : Rows) (changes : List Change) → AreKept C rs → AllByRecursion ChangeIsLimited changes → AreKept C (after_from C number rs changes)
changes_kept C number rs [] kept limited = kept
changes_kept C number rs (change ∷ changes) kept limited =
    changes_kept C (number + 1) (after_change C (number + 1) change rs) changes (changed_kept C (number + 1) change rs kept limited.0) limited.1

pub rows_kept : (C : ℕ) (changes : List Change) → AllByRecursion ChangeIsLimited changes → AreKept C (after C changes)
rows_kept C changes limited = changes_kept C 0 fin.empty changes (λ key row at. absurd (let clash : ◌≡◌ {A = Option Row} None (Some row) = sym (fin.get-empty key_cmp key) ∙ at in cc)) limited

-- ---- lists
pub added : {A : Type 0} (P : A → Type 0) (xs : List A) (x : A) → AllByRecursion P xs → P x → AllByRecursion P (xs ++ x ∷ [])
added P [] x all own = (own, tt)
added P (y ∷ ys) x all own = (all.0, added P ys x all.1 own)

pub taken : {A : Type 0} (P : A → Type 0) (n : ℕ) (xs : List A) → AllByRecursion P xs → AllByRecursion P (take n xs)
taken P zero xs all = tt
taken P (suc n) [] all = tt
taken P (suc n) (x ∷ xs) all = (all.0, taken P n xs all.1)

pub taken_few : {A : Type 0} (n : ℕ) (xs : List A) → length (take n xs) ≤ n
taken_few zero xs = omega arith
taken_few (suc n) [] = omega arith
taken_few (suc n) (x ∷ xs) = let few = taken_few n xs in omega (arith, few)

pub filtered : {A : Type 0} (P : A → Type 0) (p : A → Bool) (xs : List A) → AllByRecursion P xs → AllByRecursion P (filter p xs)
filtered P p [] all = tt
filtered P p (x ∷ xs) all =
    let rest = filtered P p xs all.1 in
    elim (p x) as (λ b. AllByRecursion P (cond b (x ∷ filter p xs) (filter p xs))) [ true ↦ (all.0, rest) | false ↦ rest ]

pub each_of : {A : Type 0} (P Q : A → Type 0) → ((x : A) → P x → Q x) → (xs : List A) → AllByRecursion P xs → AllByRecursion Q xs
each_of P Q each [] all = tt
each_of P Q each (x ∷ xs) all = (each x all.0, each_of P Q each xs all.1)
