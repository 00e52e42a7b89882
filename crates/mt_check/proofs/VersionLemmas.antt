-- The versions of a key show which row it has at each number.
use Rattle.std.proofs.Common.{◌≡◌, ◌≤◌, ◌<◌, ℕ, zero, suc, ◌+◌, ◌-◌, Bool, true, false, cond, ◌||◌, List, [], ◌∷◌, take, drop, length, get_or, filter, map, Option, Some, None, refl, ap, sym, ◌∙◌, subst, arith, inl, inr, ◌⊎◌}
use Rattle.std.specs.Prelude.{nat_le, slice_get}
use Rattle.std.specs.List.Sorted.{IsPartitionedBy, IsPartitionPoint}
use Rattle.std.specs.Ordering.{is_eq}
use Rattle.std.specs.FinMap as map
use Rattle.std.proofs.lemmas.Bool.{false≢true, cases_Bool}
use borrow.Author.Tests.{leb-true, leb-false}
use Rattle.mt_types.specs.Keys.{key_cmp}
use Rattle.mt_types.specs.Rows.{Rows}
use Rattle.mt_types.specs.declared.row.Row.{Row}
use Rattle.mt_types.specs.declared.row.Delta.{Delta}
use Rattle.mt_commit.specs.Deltas.{redo}
use Rattle.mt_commit.specs.Log.{Numbered}
use Rattle.mt_commit.proofs.RowLemmas.{get-with_row}
use Rattle.mt_check.specs.declared.versions.Version.{Version}
use Rattle.mt_check.specs.Receipts.{rows_after, rows_at, Sometime}
use Rattle.mt_check.specs.Versions.{version_of, versions_of, Rising, last_row, standing, later, some_until, some_between}

-- the rows after deltas, read under a key
pub get-rows_after : (key : List ℕ) (deltas : List Delta) (rows : Rows) → map.get (rows_after deltas rows) key ≡ last_row (map.get rows key) (versions_of key deltas)
get-rows_after key [] rows = refl
get-rows_after key (delta ∷ deltas) rows =
    get-rows_after key deltas (redo delta rows)
    ∙ ap (λ (r : Option Row). last_row r (versions_of key deltas)) (get-with_row delta.key delta.after rows key)
    ∙ (elim (is_eq (key_cmp key delta.key)) as (λ b. last_row (cond b delta.after (map.get rows key)) (versions_of key deltas) ≡ last_row (map.get rows key) (map version_of (cond b (delta ∷ filter (λ d. is_eq (key_cmp key d.key)) deltas) (filter (λ d. is_eq (key_cmp key d.key)) deltas)))) [
      | true ↦ refl
      | false ↦ refl
    ])

-- numbers that rise from above one rise from above a smaller one
pub rising_from : (low lower : ℕ) (versions : List Version) → lower ≤ low → Rising low versions → Rising lower versions
rising_from low lower [] h r = tt
rising_from low lower (v ∷ versions) h r = (omega (arith, r.0, h), r.1)

-- the versions of a key rise
pub rising_versions : (key : List ℕ) (number : ℕ) (deltas : List Delta) → Numbered number deltas → Rising number (versions_of key deltas)
rising_versions key number [] h = tt
rising_versions key number (delta ∷ deltas) h =
    let rest = rising_versions key (number + 1) deltas h.1 in
    elim (cases_Bool (is_eq (key_cmp key delta.key))) [
      | inl e ↦ rw e (omega (arith, h.0), subst (λ (n : ℕ). Rising n (versions_of key deltas)) (sym h.0) rest)
      | inr e ↦ rw e (rising_from (number + 1) number (versions_of key deltas) (omega arith) rest)
    ]

-- before the first version the row stands that was there
pub standing_none : (number low : ℕ) (old : Option Row) (versions : List Version) → number ≤ low → Rising low versions → standing number old versions ≡ old
standing_none number low old [] h r = refl
standing_none number low old (v ∷ versions) h r =
    let after : nat_le v.number number ≡ false = search (arith, r.0, h) in
    rw after (standing_none number v.number old versions (omega (arith, r.0, h)) r.1)

-- the row at a number is the last that the deltas up to it leave
standing_take : (key : List ℕ) (number count : ℕ) (old : Option Row) (deltas : List Delta) → Numbered number deltas
    → standing (number + count) old (versions_of key deltas) ≡ last_row old (versions_of key (take count deltas))
standing_take key number zero old deltas h = standing_none (number + 0) number old (versions_of key deltas) (omega arith) (rising_versions key number deltas h)
standing_take key number (suc count) old [] h = refl
standing_take key number (suc count) old (delta ∷ deltas) h =
    let sum : number + suc count ≡ number + 1 + count = omega arith in
    elim (cases_Bool (is_eq (key_cmp key delta.key))) [
      | inl e ↦
          let before : nat_le delta.number (number + suc count) ≡ true = search (arith, h.0) in
          rw e (rw before (ap (λ (n : ℕ). standing n delta.after (versions_of key deltas)) sum ∙ standing_take key (number + 1) count delta.after deltas h.1))
      | inr e ↦ rw e (ap (λ (n : ℕ). standing n old (versions_of key deltas)) sum ∙ standing_take key (number + 1) count old deltas h.1)
    ]

-- what stands under a key at a number
pub found_at : (key : List ℕ) (deltas : List Delta) (number : ℕ) → Numbered 0 deltas → map.get (rows_at deltas number) key ≡ standing number None (versions_of key deltas)
found_at key deltas number h =
    let none : map.get (map.empty {K = List ℕ} {X = Row} {R = key_cmp}) key ≡ None = map.get-empty key_cmp key in
    let zero_more : 0 + number ≡ number = omega arith in
    get-rows_after key (take number deltas) map.empty
    ∙ ap (λ (r : Option Row). last_row r (versions_of key (take number deltas))) none
    ∙ sym (standing_take key 0 number None deltas h)
    ∙ ap (λ (n : ℕ). standing n None (versions_of key deltas)) zero_more

or_left : (a b : Bool) → a ≡ true → a || b ≡ true
or_left a b e = rw e

or_right : (a b : Bool) → b ≡ true → a || b ≡ true
or_right true b e = refl
or_right false b e = e

or_cases : (a b : Bool) → a || b ≡ true → (a ≡ true) ⊎ (b ≡ true)
or_cases true b e = inl refl
or_cases false b e = inr e

abbrev between : (Option Row → Bool) → ℕ → ℕ → Option Row → List Version → Bool
between test from to old versions = test (standing from old versions) || some_until test to (later from versions)

-- if the row, or none, at some number from one to another passes the test, the versions show it
told : (test : Option Row → Bool) (from to low : ℕ) (old : Option Row) (versions : List Version) → Rising low versions → (number : ℕ) → from ≤ number → number ≤ to
    → test (standing number old versions) ≡ true → between test from to old versions ≡ true
told test from to low old [] r number f t e = or_left (test old) false e
told test from to low old (v ∷ versions) r number f t e =
    elim (cases_Bool (nat_le v.number from)) [
      | inl b ↦
          let early = leb-true v.number from b in
          let there : nat_le v.number number ≡ true = search (arith, early, f) in
          rw b (told test from to v.number v.row versions r.1 number f t (rw there at e))
      | inr b ↦
          let above = leb-false v.number from b in
          let old_then : standing from old versions ≡ old = standing_none from v.number old versions (omega (arith, above)) r.1 in
          elim (cases_Bool (nat_le v.number number)) [
            | inl c ↦
                let by = leb-true v.number number c in
                let until : nat_le v.number to ≡ true = search (arith, by, t) in
                let row_then : standing from v.row versions ≡ v.row = standing_none from v.number v.row versions (omega (arith, above)) r.1 in
                let more = told test from to v.number v.row versions r.1 number f t (rw c at e) in
                let found = subst (λ (row : Option Row). test row || some_until test to (later from versions) ≡ true) row_then more in
                rw b (or_right (test (standing from old versions)) _ (rw until found))
            | inr c ↦
                let after = leb-false v.number number c in
                let same : standing number old versions ≡ old = standing_none number v.number old versions (omega (arith, after)) r.1 in
                let passes : test (standing from old versions) ≡ true = ap test (old_then ∙ sym same) ∙ (rw c at e) in
                rw b (or_left (test (standing from old versions)) _ passes)
          ]
    ]

-- and if they show it, the row, or none, at some such number passes
tells : (test : Option Row → Bool) (from to low : ℕ) (old : Option Row) (versions : List Version) → from ≤ to → Rising low versions
    → between test from to old versions ≡ true → Sometime from to (λ number. test (standing number old versions) ≡ true)
tells test from to low old [] h r e =
    elim (or_cases (test old) false e) [ inl p ↦ (from, omega arith, h, p) | inr p ↦ absurd (false≢true p) ]
tells test from to low old (v ∷ versions) h r e =
    elim (cases_Bool (nat_le v.number from)) [
      | inl b ↦
          let early = leb-true v.number from b in
          let s = tells test from to v.number v.row versions h r.1 (rw b at e) in
          let there : nat_le v.number s.0 ≡ true = search (arith, early, s.1) in
          (s.0, s.1, s.2, rw there s.3)
      | inr b ↦
          let above = leb-false v.number from b in
          let row_then : standing from v.row versions ≡ v.row = standing_none from v.number v.row versions (omega (arith, above)) r.1 in
          elim (or_cases (test (standing from old versions)) _ (rw b at e)) [
            | inl p ↦ (from, omega arith, h, rw b p)
            | inr p ↦ elim (cases_Bool (nat_le v.number to)) [
              | inl c ↦
                  let by = leb-true v.number to c in
                  let rest : between test from to v.row versions ≡ true = subst (λ (row : Option Row). test row || some_until test to (later from versions) ≡ true) (sym row_then) (rw c at p) in
                  let s = tells test from to v.number v.row versions h r.1 rest in
                  elim (cases_Bool (nat_le v.number s.0)) [
                    | inl d ↦ (s.0, s.1, s.2, rw d s.3)
                    | inr d ↦
                        let after = leb-false v.number s.0 d in
                        let same : standing s.0 v.row versions ≡ v.row = standing_none s.0 v.number v.row versions (omega (arith, after)) r.1 in
                        let here : standing v.number v.row versions ≡ v.row = standing_none v.number v.number v.row versions (omega arith) r.1 in
                        let itself : nat_le v.number v.number ≡ true = search arith in
                        (v.number, omega (arith, above), by, rw itself (ap test (here ∙ sym same) ∙ s.3))
                  ]
              | inr c ↦ absurd (false≢true (rw c at p))
            ]
          ]
    ]

-- a row or none that passes stands under a key at some number from one to another exactly where its versions tell so
pub some_between_tells : (test : Option Row → Bool) (from to : ℕ) (key : List ℕ) (deltas : List Delta) → from ≤ to → Numbered 0 deltas
    → some_between test from to (versions_of key deltas) ≡ true → Sometime from to (λ number. test (map.get (rows_at deltas number) key) ≡ true)
some_between_tells test from to key deltas h numbered e =
    let s = tells test from to 0 None (versions_of key deltas) h (rising_versions key 0 deltas numbered) e in
    (s.0, s.1, s.2, ap test (found_at key deltas s.0 numbered) ∙ s.3)

pub told_by_some_between : (test : Option Row → Bool) (from to : ℕ) (key : List ℕ) (deltas : List Delta) → Numbered 0 deltas
    → Sometime from to (λ number. test (map.get (rows_at deltas number) key) ≡ true) → some_between test from to (versions_of key deltas) ≡ true
told_by_some_between test from to key deltas numbered s =
    told test from to 0 None (versions_of key deltas) (rising_versions key 0 deltas numbered) s.0 s.1 s.2 (ap test (sym (found_at key deltas s.0 numbered)) ∙ s.3)

-- the last of the versions tells the last row
pub last_is : (old : Option Row) (versions : List Version) (v : Version) → slice_get versions (length versions - 1) ≡ Some v → last_row old versions ≡ v.row
last_is old [] v e = cc
last_is old (w ∷ []) v e = let same : w ≡ v = cc in ap (λ (x : Version). x.row) same
last_is old (w ∷ u ∷ versions) v e =
    let place : length (w ∷ u ∷ versions) - 1 ≡ suc (length (u ∷ versions) - 1) = omega arith in
    last_is w.row (u ∷ versions) v (sym (ap (slice_get (w ∷ u ∷ versions)) place) ∙ e)

-- if the numbers rise, they don't fall
rising_at : (low : ℕ) (versions : List Version) → Rising low versions → (i : ℕ) (d : Version) → i < length versions → low < (get_or versions i d).number
rising_at low [] r i d h = absurd (omega arith)
rising_at low (v ∷ versions) r zero d h = r.0
rising_at low (v ∷ versions) r (suc i) d h = let k = rising_at v.number versions r.1 i d (omega arith) in omega (arith, r.0, k)

rising_ordered : (low : ℕ) (versions : List Version) → Rising low versions → (i j : ℕ) (d : Version) → i ≤ j → j < length versions → (get_or versions i d).number ≤ (get_or versions j d).number
rising_ordered low [] r i j d h k = absurd (omega arith)
rising_ordered low (v ∷ versions) r zero zero d h k = omega arith
rising_ordered low (v ∷ versions) r zero (suc j) d h k = let above = rising_at v.number versions r.1 j d (omega arith) in omega (arith, above)
rising_ordered low (v ∷ versions) r (suc i) zero d h k = absurd (omega arith)
rising_ordered low (v ∷ versions) r (suc i) (suc j) d h k = rising_ordered v.number versions r.1 i j d (omega arith) (omega arith)

pub rising_parted : (versions : List Version) (number : ℕ) → Rising 0 versions → IsPartitionedBy (λ (v : Version). nat_le v.number number) versions
rising_parted versions number r i j d h k e =
    let ordered = rising_ordered 0 versions r i j d h k in
    let below = leb-true (get_or versions j d).number number e in
    search (arith, ordered, below)

-- versions up to a number, and those after it
abbrev pub Parts : ℕ → List Version → ℕ → Type 0
Parts number versions count =
    IsPartitionPoint (λ (v : Version). nat_le v.number number ≡ true) (λ (v : Version). nat_le v.number number ≡ false) versions count

parts_rest : (number : ℕ) (v : Version) (versions : List Version) (count : ℕ) → Parts number (v ∷ versions) (suc count) → Parts number versions count
parts_rest number v versions count p = (
  λ k d h i. p.0 (suc k) d (omega arith) (omega arith),
  λ k d h i. p.1 (suc k) d (omega arith) (omega arith),
)

none_early : (number : ℕ) (old : Option Row) (versions : List Version) → Parts number versions zero → (standing number old versions ≡ old) × (later number versions ≡ versions)
none_early number old [] p = (refl, refl)
none_early number old (v ∷ versions) p =
    let here : nat_le v.number number ≡ false = p.1 zero v (omega arith) (omega arith) in
    let rest = none_early number old versions (λ k d h i. absurd (omega arith), λ k d h i. p.1 (suc k) d (omega arith) (omega arith)) in
    (rw here rest.0, rw here (ap (λ (vs : List Version). v ∷ vs) rest.1))

pub parted : (number : ℕ) (old : Option Row) (versions : List Version) (count : ℕ) → Parts number versions count → count ≤ length versions
    → (standing number old versions ≡ last_row old (take count versions)) × (later number versions ≡ drop count versions)
parted number old versions zero p h = none_early number old versions p
parted number old [] (suc count) p h = absurd (omega arith)
parted number old (v ∷ versions) (suc count) p h =
    let here : nat_le v.number number ≡ true = p.0 zero v (omega arith) (omega arith) in
    let rest = parted number v.row versions count (parts_rest number v versions count p) (omega arith) in
    (rw here rest.0, rw here rest.1)
