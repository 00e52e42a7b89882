-- The deltas of changes: one more of them, and what undoing them gives.
use Rattle.std.proofs.Common.{◌≡◌, ℕ, zero, suc, ◌+◌, List, [], ◌∷◌, ◌++◌, length, drop, take, reverse, Option, Some, None, ap, sym, refl, ◌∙◌, subst, arith}
use Rattle.std.specs.Prelude.{slice_get}
use Rattle.std.specs.FinMap.{get, empty}
use Rattle.std.proofs.lemmas.List.{reverse-append}
use Rattle.mt_types.specs.Rows.{Rows, after, after_change, after_from}
use Rattle.mt_types.specs.declared.row.Row.{Row}
use Rattle.mt_types.specs.declared.row.Change.{Change}
use Rattle.mt_types.specs.declared.row.Change.TheVariants.{Put, Drop}
use Rattle.mt_types.specs.declared.row.Delta.{Delta}
use Rattle.mt_commit.specs.Deltas.{with_row, redo, undo, rows_before, FitsNewestFirst}
use Rattle.mt_commit.proofs.RowLemmas.{done_is_undone, undone_leaves_before, rows_before-append}
use Rattle.mt_commit.specs.Logged.{key_of, delta_made, deltas_from, deltas_of}

-- the row that is put under a key, or none, is there
pub get-row_put : (key : List ℕ) (row : Option Row) (rows : Rows) → get (with_row key row rows) key ≡ row
get-row_put key row rows = undone_leaves_before (record { number = 0; key = key; before = row; after = None }) rows

-- the delta of a commit that gives a key this row or none, which had that row or none
pub delta_is : (C number : ℕ) (change : Change) (rows : Rows) (key : List ℕ) (before then : Option Row) → key_of change ≡ key → get rows key ≡ before → after_change C number change rows ≡ with_row key then rows
    → record { number = number; key = key; before = before; after = then } ≡ delta_made C number change rows
delta_is C number change rows key before then of stood makes =
    ap (λ (k : List ℕ). record { number = number; key = k; before = before; after = then }) (sym of)
    ∙ ap (λ (b : Option Row). record { number = number; key = key_of change; before = b; after = then }) (sym stood ∙ ap (get rows) (sym of))
    ∙ ap (λ (a : Option Row). record { number = number; key = key_of change; before = get rows (key_of change); after = a })
    (sym (get-row_put key then rows) ∙ ap (λ (rs : Rows). get rs key) (sym makes) ∙ ap (get (after_change C number change rows)) (sym of))

-- one more change
deltas_from-append : (C n : ℕ) (rows : Rows) (cs : List Change) (c : Change)
    → deltas_from C n rows (cs ++ c ∷ []) ≡ deltas_from C n rows cs ++ delta_made C (n + length cs + 1) c (after_from C n rows cs) ∷ []
deltas_from-append C n rows [] c = let e : n + 1 ≡ n + 0 + 1 = omega arith in ap (λ k. delta_made C k c rows ∷ []) e
deltas_from-append C n rows (d ∷ cs) c =
    let e : n + 1 + length cs + 1 ≡ n + suc (length cs) + 1 = omega arith in
    let first : Delta = delta_made C (n + 1) d rows in
    let made : Rows = after_change C (n + 1) d rows in
    ap (λ (ds : List Delta). first ∷ ds) (deltas_from-append C (n + 1) made cs c)
    ∙ ap (λ k. first ∷ deltas_from C (n + 1) made cs ++ delta_made C k c (after_from C (n + 1) made cs) ∷ []) e

pub deltas_of-append : (C : ℕ) (cs : List Change) (c : Change) → deltas_of C (cs ++ c ∷ []) ≡ deltas_of C cs ++ delta_made C (length cs + 1) c (after C cs) ∷ []
deltas_of-append C cs c =
    let e : 0 + length cs + 1 ≡ length cs + 1 = omega arith in
    deltas_from-append C 0 empty cs c ∙ ap (λ k. deltas_of C cs ++ delta_made C k c (after C cs) ∷ []) e

-- there is one delta for each change
deltas_from-length : (C n : ℕ) (rows : Rows) (cs : List Change) → length (deltas_from C n rows cs) ≡ length cs
deltas_from-length C n rows [] = refl
deltas_from-length C n rows (c ∷ cs) = ap (λ (m : ℕ). suc m) (deltas_from-length C (n + 1) (after_change C (n + 1) c rows) cs)

pub deltas_of-length : (C : ℕ) (cs : List Change) → length (deltas_of C cs) ≡ length cs
deltas_of-length C cs = deltas_from-length C 0 empty cs

-- a change is the redoing of its delta
pub redone : (C number : ℕ) (change : Change) (rows : Rows) → after_change C number change rows ≡ redo (delta_made C number change rows) rows
redone C number (Put key sets) rows = ap (λ (r : Option Row). with_row key r rows) (sym (get-row_put key (Some _) rows))
redone C number (Drop key) rows = ap (λ (r : Option Row). with_row key r rows) (sym (get-row_put key None rows))

-- and its delta undoes it
undone : (C number : ℕ) (change : Change) (rows : Rows) → undo (delta_made C number change rows) (after_change C number change rows) ≡ rows
undone C number change rows =
    ap (undo (delta_made C number change rows)) (redone C number change rows) ∙ done_is_undone (delta_made C number change rows) rows refl

-- the deltas of changes undo all of them
all_undone : (C n : ℕ) (rows : Rows) (cs : List Change) → rows_before (reverse (deltas_from C n rows cs)) (after_from C n rows cs) ≡ rows
all_undone C n rows [] = refl
all_undone C n rows (c ∷ cs) =
    let first : Delta = delta_made C (n + 1) c rows in
    let made : Rows = after_change C (n + 1) c rows in
    let more : List Delta = deltas_from C (n + 1) made cs in
    ap (λ (ds : List Delta). rows_before ds (after_from C (n + 1) made cs)) (reverse-append (first ∷ []) more)
    ∙ rows_before-append (reverse more) (first ∷ []) (after_from C (n + 1) made cs)
    ∙ ap (undo first) (all_undone C (n + 1) made cs)
    ∙ undone C (n + 1) c rows

-- the last of them lead back to the changes before them
pub last_undone : (C n : ℕ) (rows : Rows) (cs : List Change) (i : ℕ) → rows_before (reverse (drop i (deltas_from C n rows cs))) (after_from C n rows cs) ≡ after_from C n rows (take i cs)
last_undone C n rows cs zero = all_undone C n rows cs
last_undone C n rows [] (suc i) = refl
last_undone C n rows (c ∷ cs) (suc i) = last_undone C (n + 1) (after_change C (n + 1) c rows) cs i

fits-append : (xs ys : List Delta) (rows : Rows) → FitsNewestFirst xs rows → FitsNewestFirst ys (rows_before xs rows) → FitsNewestFirst (xs ++ ys) rows
fits-append [] ys rows f g = g
fits-append (x ∷ xs) ys rows f g = (f.0, fits-append xs ys (undo x rows) f.1 g)

-- each of them finds its row after
pub all_fit : (C n : ℕ) (rows : Rows) (cs : List Change) → FitsNewestFirst (reverse (deltas_from C n rows cs)) (after_from C n rows cs)
all_fit C n rows [] = tt
all_fit C n rows (c ∷ cs) =
    let first : Delta = delta_made C (n + 1) c rows in
    let made : Rows = after_change C (n + 1) c rows in
    let more : List Delta = deltas_from C (n + 1) made cs in
    subst (λ (ds : List Delta). FitsNewestFirst ds (after_from C (n + 1) made cs)) (sym (reverse-append (first ∷ []) more))
    (fits-append (reverse more) (first ∷ []) (after_from C (n + 1) made cs) (all_fit C (n + 1) made cs)
    (ap (λ (rs : Rows). get rs (key_of c)) (all_undone C (n + 1) made cs), tt))

-- each change has its delta, at its place
pub delta_at : (C n : ℕ) (rows : Rows) (cs : List Change) (i : ℕ) (c : Change) → slice_get cs i ≡ Some c
    → slice_get (deltas_from C n rows cs) i ≡ Some (delta_made C (n + i + 1) c (after_from C n rows (take i cs)))
delta_at C n rows [] i c e = cc
delta_at C n rows (d ∷ cs) zero c e =
    let same : d ≡ c = cc in
    let k : n + 1 ≡ n + 0 + 1 = omega arith in
    ap (λ (m : ℕ). Some (delta_made C m d rows)) k ∙ ap (λ (x : Change). Some (delta_made C (n + 0 + 1) x rows)) same
delta_at C n rows (d ∷ cs) (suc i) c e =
    let k : n + 1 + i + 1 ≡ n + suc i + 1 = omega arith in
    let made : Rows = after_change C (n + 1) d rows in
    delta_at C (n + 1) made cs i c e ∙ ap (λ (m : ℕ). Some (delta_made C m c (after_from C (n + 1) made (take i cs)))) k

-- the rows after one change more
pub taken_more : (C n : ℕ) (rows : Rows) (cs : List Change) (i : ℕ) (c : Change) → slice_get cs i ≡ Some c
    → after_from C n rows (take (suc i) cs) ≡ after_change C (n + i + 1) c (after_from C n rows (take i cs))
taken_more C n rows [] i c e = cc
taken_more C n rows (d ∷ cs) zero c e =
    let same : d ≡ c = cc in
    let k : n + 1 ≡ n + 0 + 1 = omega arith in
    ap (λ (m : ℕ). after_change C m d rows) k ∙ ap (λ (x : Change). after_change C (n + 0 + 1) x rows) same
taken_more C n rows (d ∷ cs) (suc i) c e =
    let k : n + 1 + i + 1 ≡ n + suc i + 1 = omega arith in
    let made : Rows = after_change C (n + 1) d rows in
    taken_more C (n + 1) made cs i c e ∙ ap (λ (m : ℕ). after_change C m c (after_from C (n + 1) made (take i cs))) k
