-- A delta is that of a commit exactly where it leaves what the change makes of its row before.
use Rattle.std.proofs.Common.{◌≡◌, ◌≤◌, ◌<◌, ℕ, zero, suc, ◌+◌, ◌-◌, Bool, cond, ◌&&◌, List, Option, Some, None, refl, ap, sym, ◌∙◌, subst, arith, inl, inr}
use Rattle.std.specs.Prelude.{nat_lt, nat_le, slice_get, IsTrue, ◌↔◌, Result, Ok, Err, IfOk, [], ◌∷◌}
use Rattle.std.specs.FinMap.{get, insert}
use Rattle.std.specs.Cmp.{first_so, second_so}
use Rattle.std.proofs.lemmas.Bool.{cases_Bool}
use borrow.Author.Tests.{leb-true, ltb-true}
use Rattle.mt_types.specs.Rows.{Rows, after_change, new_columns, columns_before, version_of}
use Rattle.mt_types.specs.declared.row.Row.{Row}
use Rattle.mt_types.specs.declared.row.Change.{Change}
use Rattle.mt_types.specs.declared.row.Change.TheVariants.{Put, Drop}
use Rattle.mt_types.specs.declared.row.Delta.{Delta}
use Rattle.mt_commit.specs.Deltas.{with_row}
use Rattle.mt_commit.specs.Log.{Numbered}
use Rattle.mt_commit.specs.Logged.{key_of, delta_made}
use Rattle.mt_commit.proofs.DeltaLemmas.{get-row_put, delta_is}
use Rattle.mt_check.specs.Receipts.{rows_at, IsSoundLog, IsCommit, IsOfVersion}
use Rattle.mt_check.specs.Judging.{MadeBy, MadeOver}

pub numbered_at : (number : ℕ) (deltas : List Delta) (i : ℕ) (d : Delta) → Numbered number deltas → slice_get deltas i ≡ Some d → d.number ≡ number + i + 1
numbered_at number [] i d h e = cc
numbered_at number (x ∷ deltas) zero d h e =
    let same : x ≡ d = cc in
    let here : d.number ≡ number + 1 = ap (λ (y : Delta). y.number) (sym same) ∙ h.0 in
    omega (arith, here)
numbered_at number (x ∷ deltas) (suc i) d h e = let later = numbered_at (number + 1) deltas i d h.1 e in omega (arith, later)

abbrev put_row : ℕ → ℕ → List (ℕ × List ℕ) → Option Row → Row
put_row C number sets before = record { version = number; columns = new_columns sets 0 (columns_before C before) }

-- what a change makes of rows is the delta's row under its key
makes : (C : ℕ) (d : Delta) (change : Change) (rows : Rows) → get rows d.key ≡ d.before → MadeBy C d change → (key_of change ≡ d.key) × (after_change C d.number change rows ≡ with_row d.key d.after rows)
makes C d (Put key sets) rows found made =
    let stored : put_row C d.number sets (get rows key) ≡ put_row C d.number sets d.before = ap (put_row C d.number sets) (ap (get rows) (sym made.0) ∙ found) in (
      sym made.0,
      ap (insert rows key) stored
          ∙ ap (λ (o : Option Row). with_row key o rows) (sym made.1)
          ∙ ap (λ (k : List ℕ). with_row k d.after rows) (sym made.0),
    )
makes C d (Drop key) rows found made = (
  sym made.0,
  ap (λ (o : Option Row). with_row key o rows) (sym made.1) ∙ ap (λ (k : List ℕ). with_row k d.after rows) (sym made.0),
)

made_is : (C : ℕ) (d : Delta) (change : Change) (rows : Rows) → get rows d.key ≡ d.before → MadeBy C d change → d ≡ delta_made C d.number change rows
made_is C d change rows found made =
    let m = makes C d change rows found made in
    delta_is C d.number change rows d.key d.before d.after m.0 found m.1

is_made : (C number : ℕ) (change : Change) (rows : Rows) → MadeBy C (delta_made C number change rows) change
is_made C number (Put key sets) rows = (refl, get-row_put key (Some (put_row C number sets (get rows key))) rows)
is_made C number (Drop key) rows = (refl, get-row_put key None rows)

-- a delta that is looked up in a span
pub in_span : (from to number : ℕ) (deltas : List Delta) (d : Delta) → Some d ≡ cond (nat_lt from number && nat_le number to) (slice_get deltas (number - 1)) None
    → (from < number) × (number ≤ to) × (slice_get deltas (number - 1) ≡ Some d)
in_span from to number deltas d e =
    elim (cases_Bool (nat_lt from number && nat_le number to)) [
      | inl b ↦ (
        ltb-true from number (first_so (nat_lt from number) (nat_le number to) b),
        leb-true number to (second_so (nat_lt from number) (nat_le number to) b),
        sym (e ∙ ap (λ (t : Bool). cond t (slice_get deltas (number - 1)) None) b),
      )
      | inr b ↦ let none : Some d ≡ None = e ∙ ap (λ (t : Bool). cond t (slice_get deltas (number - 1)) None) b in cc
    ]

-- a delta of a span is that of the commit of a change exactly where the change made it
commit_is : (C from to number : ℕ) (deltas : List Delta) (d : Delta) (change : Change) → IsSoundLog deltas
    → Some d ≡ cond (nat_lt from number && nat_le number to) (slice_get deltas (number - 1)) None
    → MadeBy C d change ↔ IsCommit C deltas from to number change
commit_is C from to number deltas d change sound e =
    let s = in_span from to number deltas d e in
    let rows : Rows = rows_at deltas (number - 1) in
    let counted = numbered_at 0 deltas (number - 1) d sound.numbered s.2 in
    let number_is : d.number ≡ number = let f = s.0 in omega (arith, counted, f) in
    let fits = sound.fits (number - 1) d s.2 in (
      λ made. (
        s.0,
        s.1,
        s.2 ∙ ap Some (made_is C d change rows fits.before made ∙ ap (λ (n : ℕ). delta_made C n change rows) number_is),
      ),
      λ commit.
          let both : Some d ≡ Some (delta_made C number change rows) = sym s.2 ∙ commit.2 in
          let same : d ≡ delta_made C number change rows = cc in
          subst (λ (x : Delta). MadeBy C x change) (sym same) (is_made C number change rows),
    )

-- whether a commit made a change is known from its delta
pub told_commit : (C from to number : ℕ) (deltas : List Delta) (d : Delta) (change : Change) (yes_ : Bool) → IsSoundLog deltas
    → Some d ≡ cond (nat_lt from number && nat_le number to) (slice_get deltas (number - 1)) None
    → IsTrue yes_ ↔ MadeBy C d change → IsTrue yes_ ↔ IsCommit C deltas from to number change
told_commit C from to number deltas d change yes_ sound e told =
    let is = commit_is C from to number deltas d change sound e in
    (λ y. is.0 (told.0 y), λ commit. told.1 (is.1 commit))

pub told_put : {E : Type 0} (C from to number : ℕ) (deltas : List Delta) (d : Delta) (change : Change) (r : Result Bool E) → IsSoundLog deltas
    → Some d ≡ cond (nat_lt from number && nat_le number to) (slice_get deltas (number - 1)) None
    → IfOk r (λ yes_. IsTrue yes_ ↔ MadeBy C d change) → IfOk r (λ yes_. IsTrue yes_ ↔ IsCommit C deltas from to number change)
told_put C from to number deltas d change (Ok yes_) sound e told = told_commit C from to number deltas d change yes_ sound e told
told_put C from to number deltas d change (Err error) sound e told = tt

-- that of a conditional put, by the version of the row before too
pub told_conditional_put : {E : Type 0} (C from to number : ℕ) (deltas : List Delta) (d : Delta) (key : List ℕ) (sets : List (ℕ × List ℕ)) (version : ℕ) (r : Result Bool E) → IsSoundLog deltas
    → Some d ≡ cond (nat_lt from number && nat_le number to) (slice_get deltas (number - 1)) None
    → IfOk r (λ yes_. IsTrue yes_ ↔ MadeOver C d (Put key sets) version)
    → IfOk r (λ yes_. IsTrue yes_ ↔ (IsCommit C deltas from to number (Put key sets) × IsOfVersion deltas key version (number - 1)))
told_conditional_put C from to number deltas d key sets version (Ok yes_) sound e told =
    let s = in_span from to number deltas d e in
    let fits = sound.fits (number - 1) d s.2 in
    let is = commit_is C from to number deltas d (Put key sets) sound e in
    let found : d.key ≡ key → get (rows_at deltas (number - 1)) key ≡ d.before = λ same. ap (get (rows_at deltas (number - 1))) (sym same) ∙ fits.before in (
      λ y.
          let made = told.0 y in
          (is.0 made.0, ap version_of (found made.0.0) ∙ made.1),
      λ right.
          let made = is.1 right.0 in
          told.1 (made, ap version_of (sym (found made.0)) ∙ right.1),
    )
told_conditional_put C from to number deltas d key sets version (Err error) sound e told = tt
