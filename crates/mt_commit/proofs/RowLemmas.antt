-- What the deltas of a log say of rows.
use Rattle.std.proofs.Common.{◌≡◌, ℕ, zero, suc, ◌+◌, ◌-◌, ◌≤◌, cond, List, [], ◌∷◌, ◌++◌, length, drop, take, reverse, min, Option, Some, None, ap, sym, refl, ◌∙◌, subst, arith}
use Rattle.std.specs.Prelude.{slice_get, is_some}
use Rattle.std.specs.declared.cmp.Ordering.TheVariants.{Less, Equal, Greater}
use Rattle.std.specs.Ordering.{is_eq, eq_by_cmp}
use Rattle.std.specs.Cmp.{IsTotalOrder}
use Rattle.std.specs.Cmp.Lexicographic.{nat_list_cmp_total}
use Rattle.std.specs.FinMap as map
use Rattle.std.proofs.lemmas.Cmp.{tied_itself}
use Rattle.std.proofs.lemmas.List.{reverse-append, drop-drop, take-append-drop}
use Rattle.std.proofs.Math.Seq.{drop-length}
use Rattle.mt_types.specs.Keys.{key_cmp}
use Rattle.mt_types.specs.Rows.{Rows}
use Rattle.mt_types.specs.declared.row.Row.{Row}
use Rattle.mt_types.specs.declared.row.Delta.{Delta}
use Rattle.mt_commit.specs.Log.{newest, slowest, kept_after, trimmed, counted, effect_of}
use Rattle.mt_commit.specs.Deltas.{with_row, redo, undo, rows_before, rows_at, FitsNewestFirst}
use Rattle.mt_commit.specs.Laws.{DoneIsUndone, UndoneIsDone, UndoneLeavesBefore, NewestIsPresent, AppendingFits, AppendingKeepsRows, TrimmingFits, TrimmingKeepsRows, EachDeltaMakesRows, Makes}
use Rattle.mt_commit.proofs.LogLemmas.{trim_rises}

key_order : IsTotalOrder key_cmp
key_order = nat_list_cmp_total

key_apart : map.IsAntisymmetric key_cmp
key_apart = map.slice_cmp-IsAntisymmetric map.nat_cmp-IsAntisymmetric

-- a read of the rows with this row under a key, or none
pub get-with_row : (key : List ℕ) (row : Option Row) (rows : Rows) (q : List ℕ) → map.get (with_row key row rows) q ≡ cond (eq_by_cmp key_cmp q key) row (map.get rows q)
get-with_row key None rows q = map.get-remove key_order rows key q
get-with_row key (Some row) rows q = map.get-insert key_order rows key row q

-- how many rows there are, with this row under a key, or none
pub len-with_row : (key : List ℕ) (before then : Option Row) (rows : Rows) → map.get rows key ≡ before → map.len (with_row key then rows) ≡ counted (effect_of before then) (map.len rows)
len-with_row key None None rows stood = map.len-remove key_order rows key ∙ ap (λ (o : Option Row). cond (is_some o) (map.len rows - 1) (map.len rows)) stood
len-with_row key (Some old) None rows stood = map.len-remove key_order rows key ∙ ap (λ (o : Option Row). cond (is_some o) (map.len rows - 1) (map.len rows)) stood
len-with_row key None (Some row) rows stood = map.len-insert key_order rows key row ∙ ap (λ (o : Option Row). cond (is_some o) (map.len rows) (map.len rows + 1)) stood
len-with_row key (Some old) (Some row) rows stood = map.len-insert key_order rows key row ∙ ap (λ (o : Option Row). cond (is_some o) (map.len rows) (map.len rows + 1)) stood

-- the row that was there, put back
restored : (key : List ℕ) (was other : Option Row) (rows : Rows) → map.get rows key ≡ was → with_row key was (with_row key other rows) ≡ rows
restored key was other rows found = map.same_map key_order key_apart _ _ (λ q.
    get-with_row key was (with_row key other rows) q
    ∙ ap (cond (eq_by_cmp key_cmp q key) was) (get-with_row key other rows q)
    ∙ elim (key_cmp q key) as (λ r. key_cmp q key ≡ r → cond (is_eq r) was (cond (is_eq r) other (map.get rows q)) ≡ map.get rows q) [
      | Less ↦ λ e. refl
      | Equal ↦ λ e. sym found ∙ ap (map.get rows) (sym (key_apart q key e))
      | Greater ↦ λ e. refl
    ] refl)

pub done_is_undone : DoneIsUndone
done_is_undone delta rows found = restored delta.key delta.before delta.after rows found

pub undone_is_done : UndoneIsDone
undone_is_done delta rows found = restored delta.key delta.after delta.before rows found

pub undone_leaves_before : UndoneLeavesBefore
undone_leaves_before delta rows =
    get-with_row delta.key delta.before rows delta.key
    ∙ ap (λ r. cond (is_eq r) delta.before (map.get rows delta.key)) (tied_itself key_order delta.key)

pub newest_is_present : NewestIsPresent
newest_is_present log rows =
    let all : newest log - log.held_after ≡ length log.deltas = omega arith in
    ap (λ n. rows_before (reverse (drop n log.deltas)) rows) all ∙ ap (λ deltas. rows_before (reverse deltas) rows) (drop-length log.deltas)

-- a delta at the end is the newest
reverse-push : (deltas : List Delta) (delta : Delta) → reverse (deltas ++ delta ∷ []) ≡ delta ∷ reverse deltas
reverse-push deltas delta = reverse-append deltas (delta ∷ [])

pub appending_fits : AppendingFits
appending_fits log delta rows fits found =
    subst (λ deltas. FitsNewestFirst deltas (redo delta rows)) (sym (reverse-push log.deltas delta)) (
      get-with_row delta.key delta.after rows delta.key ∙ ap (λ r. cond (is_eq r) delta.after (map.get rows delta.key)) (tied_itself key_order delta.key),
      subst (FitsNewestFirst (reverse log.deltas)) (sym (done_is_undone delta rows found)) fits,
    )

drop-push : (n : ℕ) (deltas : List Delta) (delta : Delta) → n ≤ length deltas → drop n (deltas ++ delta ∷ []) ≡ drop n deltas ++ delta ∷ []
drop-push zero deltas delta h = refl
drop-push (suc n) [] delta h = absurd (omega arith)
drop-push (suc n) (d ∷ deltas) delta h = drop-push n deltas delta (omega arith)

pub appending_keeps_rows : AppendingKeepsRows
appending_keeps_rows log delta rows number h found =
    let n = number - log.held_after in
    ap (λ deltas. rows_before (reverse deltas) (redo delta rows)) (drop-push n log.deltas delta (omega arith))
    ∙ ap (λ deltas. rows_before deltas (redo delta rows)) (reverse-push (drop n log.deltas) delta)
    ∙ ap (rows_before (reverse (drop n log.deltas))) (done_is_undone delta rows found)

pub rows_before-append : (xs ys : List Delta) (rows : Rows) → rows_before (xs ++ ys) rows ≡ rows_before ys (rows_before xs rows)
rows_before-append [] ys rows = refl
rows_before-append (x ∷ xs) ys rows = rows_before-append xs ys (undo x rows)

-- the newest deltas of those that fit do
fits_newest : (xs ys : List Delta) (rows : Rows) → FitsNewestFirst (xs ++ ys) rows → FitsNewestFirst xs rows
fits_newest [] ys rows fits = tt
fits_newest (x ∷ xs) ys rows fits = (fits.0, fits_newest xs ys (undo x rows) fits.1)

-- and the others do for the rows before those
fits_rest : (xs ys : List Delta) (rows : Rows) → FitsNewestFirst (xs ++ ys) rows → FitsNewestFirst ys (rows_before xs rows)
fits_rest [] ys rows fits = fits
fits_rest (x ∷ xs) ys rows fits = fits_rest xs ys (undo x rows) fits.1

-- the last deltas of a log that fits, the newest first
fits_last : (n : ℕ) (deltas : List Delta) (rows : Rows) → FitsNewestFirst (reverse deltas) rows → FitsNewestFirst (reverse (drop n deltas)) rows
fits_last n deltas rows fits =
    fits_newest (reverse (drop n deltas)) (reverse (take n deltas)) rows
    (subst (λ ds. FitsNewestFirst ds rows) (ap reverse (sym (take-append-drop n deltas)) ∙ reverse-append (take n deltas) (drop n deltas)) fits)

pub trimming_fits : TrimmingFits
trimming_fits log rows fits = fits_last ((trimmed log).held_after - log.held_after) log.deltas rows fits

pub trimming_keeps_rows : TrimmingKeepsRows
trimming_keeps_rows log rows number is h =
    let bound = min (slowest log) (kept_after log (newest log)) in
    let rises = trim_rises log bound is refl in
    let same : (bound - log.held_after) + (number - bound) ≡ number - log.held_after = omega arith in
    ap (λ deltas. rows_before (reverse deltas) rows) (drop-drop (number - bound) (bound - log.held_after) log.deltas ∙ ap (λ n. drop n log.deltas) same)

drop-at : (n : ℕ) (deltas : List Delta) (delta : Delta) → slice_get deltas n ≡ Some delta → drop n deltas ≡ delta ∷ drop (suc n) deltas
drop-at n [] delta e = cc
drop-at zero (d ∷ deltas) delta e = let same : d ≡ delta = cc in ap (λ x. x ∷ deltas) same
drop-at (suc n) (d ∷ deltas) delta e = drop-at n deltas delta e

reverse-front : (delta : Delta) (deltas : List Delta) → reverse (delta ∷ deltas) ≡ reverse deltas ++ delta ∷ []
reverse-front delta deltas = reverse-append (delta ∷ []) deltas

-- a delta that follows n others
made_after : (n : ℕ) (deltas : List Delta) (rows : Rows) (delta : Delta) → FitsNewestFirst (reverse deltas) rows → slice_get deltas n ≡ Some delta
    → Makes delta (rows_before (reverse (drop n deltas)) rows) (rows_before (reverse (drop (suc n) deltas)) rows)
made_after n deltas rows delta fits e =
    let newer = reverse (drop (suc n) deltas) in
    let split : reverse (drop n deltas) ≡ newer ++ delta ∷ [] = ap reverse (drop-at n deltas delta e) ∙ reverse-front delta (drop (suc n) deltas) in
    let old : rows_before (reverse (drop n deltas)) rows ≡ undo delta (rows_before newer rows) =
    ap (λ ds. rows_before ds rows) split ∙ rows_before-append newer (delta ∷ []) rows in
    let there = fits_rest newer (delta ∷ []) rows (subst (λ ds. FitsNewestFirst ds rows) split (fits_last n deltas rows fits)) in
    record {
      before = ap (λ r. map.get r delta.key) old ∙ undone_leaves_before delta (rows_before newer rows);
      made = sym (undone_is_done delta (rows_before newer rows) there.0) ∙ ap (redo delta) (sym old);
    }

pub each_delta_makes_rows : EachDeltaMakesRows
each_delta_makes_rows log rows number delta fits h e =
    let n = number - log.held_after in
    let place : number + 1 - log.held_after - 1 ≡ n = omega arith in
    let next : number + 1 - log.held_after ≡ suc n = omega arith in
    subst (λ k. Makes delta (rows_at log rows number) (rows_before (reverse (drop k log.deltas)) rows)) (sym next)
    (made_after n log.deltas rows delta fits (ap (slice_get log.deltas) (sym place) ∙ e))
