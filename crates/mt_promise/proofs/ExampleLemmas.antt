-- The small histories against the definitions.
use Rattle.std.proofs.Common.{◌≡◌, ◌<◌, ◌*◌, ℕ, true, false, List, [], ◌∷◌, length, Option, Some, None, ap, sym, subst, refl, inl, inr, ◌∙◌, arith}
use Rattle.std.specs.Prelude.{IsSome, take}
use Rattle.std.proofs.lemmas.Bool.{false≢true}
use Rattle.std.proofs.lemmas.Cmp.{nat_list_cmp_total}
use Rattle.std.specs.FinMap.{get, empty, get-insert, get-empty}
use Rattle.mt_promise.proofs.HistoryLemmas.{Throughout-not}
use Rattle.mt_types.specs.Keys.{key_cmp}
use Rattle.mt_types.specs.Rows.{after, new_columns, columns_before}
use Rattle.mt_types.specs.Views.{afresh, column_sums}
use Rattle.mt_promise.specs.History.{History, moment}
use Rattle.mt_promise.specs.RightAnswers.{Shows, Lacks}
use Rattle.mt_promise.specs.Examples.{VisibleIsLegal, LateAbsenceIsRefuted, EarlyRowIsRefuted, KeyLeftOutIsRefuted, WrongCommitIsRefuted, TwoCommitsAreRefuted, AmountLeftIsRefuted, key, bytes, row, early_row as early_history, late_absence as late_history, amount_left as left_history, at_least_five}
use Rattle.mt_types.specs.declared.row.Row.{Row}
use Rattle.mt_types.specs.declared.row.Change.{Change}
use Rattle.mt_types.specs.declared.row.Change.TheVariants.{Put}
use Rattle.mt_types.specs.declared.view.Page.{Page}
use Rattle.mt_types.specs.declared.event.Outcome.{Outcome}
use Rattle.mt_types.specs.declared.event.Outcome.TheVariants.{View, Refused}
use Rattle.mt_types.specs.declared.refusal.Refusal.{Refusal}
use Rattle.mt_types.specs.declared.limits.TheConstants.{MAX_NODES}
use Rattle.mt_promise.specs.declared.limits.TheConstants.{MAX_READS}

-- a history but for its last happening
abbrev before_last : History → History
before_last [] = []
before_last (x ∷ past) = past

abbrev commits : List Change
commits = Put key ((0, bytes) ∷ []) ∷ []

-- before the first commit the key has no row
none_first : get (after 1 []) key ≡ None
none_first = get-empty key_cmp key

-- after it the key has the row
row_then : get (after 1 commits) key ≡ Some row
row_then =
    get-insert nat_list_cmp_total empty key (record { version = 1; columns = new_columns ((0, bytes) ∷ []) 0 (columns_before 1 (get empty key)) }) key
    ∙ ap (λ (o : Option Row). Some (record { version = 1; columns = new_columns ((0, bytes) ∷ []) 0 (columns_before 1 o) })) none_first

stands_then : IsSome (get (after 1 commits) key)
stands_then = subst (λ (o : Option Row). IsSome o) (sym row_then) refl

pub wrong_commit : WrongCommitIsRefuted
wrong_commit legal = let e : ◌≡◌ {A = ℕ} 2 1 = legal.1.0 in omega arith

pub two_commits : TwoCommitsAreRefuted
two_commits legal = let e : ◌≡◌ {A = Option ℕ} (Some 1) None = legal.1.1 in cc

no_row_first : (answer r : Row) → get (after 1 []) key ≡ Some r → ⊥
no_row_first answer r e = let none = none_first in cc

pub early_row : EarlyRowIsRefuted
early_row legal =
    Throughout-not 1 (Shows 1 key [] row) (before_last early_history) (
      (λ _ s. no_row_first row s.0 s.1),
      (
        (λ _ s. no_row_first row s.0 s.1),
        (
          (λ _ s. no_row_first row s.0 s.1),
          (
            (λ _ s. no_row_first row s.0 s.1),
            ((λ _ s. no_row_first row s.0 s.1), ((λ _ s. no_row_first row s.0 s.1), (λ _ s. no_row_first row s.0 s.1))),
          ),
        ),
      ),
    )
    legal.1.answer

lacks_then : get (after 1 commits) key ≡ None → ⊥
lacks_then e = let then_ = row_then in cc

pub late_absence : LateAbsenceIsRefuted
late_absence legal =
    Throughout-not 9 (Lacks 1 key) (before_last late_history) (
      (λ _ e. lacks_then e),
      (
        (λ _ e. lacks_then e),
        (
          (λ _ e. lacks_then e),
          (
            (λ since _. omega (arith, since)),
            (
              (λ since _. omega (arith, since)),
              (
                (λ since _. omega (arith, since)),
                (
                  (λ since _. omega (arith, since)),
                  (
                    (λ since _. omega (arith, since)),
                    (
                      (λ since _. omega (arith, since)),
                      ((λ since _. omega (arith, since)), ((λ since _. omega (arith, since)), (λ since _. omega (arith, since)))),
                    ),
                  ),
                ),
              ),
            ),
          ),
        ),
      ),
    )
    legal.1.answer

pub key_left_out : KeyLeftOutIsRefuted
key_left_out legal =
    let once = legal.1.answer.once key refl (
      (λ _. stands_then),
      (
        (λ _. stands_then),
        (
          (λ _. stands_then),
          (
            (λ since. absurd (omega (arith, since))),
            (
              (λ since. absurd (omega (arith, since))),
              (
                (λ since. absurd (omega (arith, since))),
                (
                  (λ since. absurd (omega (arith, since))),
                  (
                    (λ since. absurd (omega (arith, since))),
                    (
                      (λ since. absurd (omega (arith, since))),
                      (
                        (λ since. absurd (omega (arith, since))),
                        (
                          (λ since. absurd (omega (arith, since))),
                          (
                            (λ since. absurd (omega (arith, since))),
                            ((λ since. absurd (omega (arith, since))), ((λ since. absurd (omega (arith, since))), (λ since. absurd (omega (arith, since))))),
                          ),
                        ),
                      ),
                    ),
                  ),
                ),
              ),
            ),
          ),
        ),
      ),
    )
    (inl (omega arith)) in
    let none : ◌≡◌ {A = ℕ} 0 1 = once in omega (arith, none)

moves_on : (n : ℕ) → false ≡ true → n < MAX_READS * MAX_NODES
moves_on n e = absurd (false≢true e)

pub visible : VisibleIsLegal
visible = (
  (
    (
      (
        (
          (
            ((((((tt, inl refl), inl refl), moves_on 0), moves_on 1), moves_on 2), λ _. omega arith),
            record { pass = refl; number = refl; from = refl; to = refl; answer = inl (omega arith, none_first) },
          ),
          (refl, refl),
        ),
        inl refl,
      ),
      λ _. omega arith,
    ),
    record { pass = refl; number = refl; from = refl; to = refl; answer = inl (omega arith, (row, row_then, refl)) },
  ),
  record { pass = refl; number = refl; from = refl; to = refl; answer = refl },
)

no_amount : (pairs : List (List ℕ × Row)) → 0 ≡ length pairs → 5 ∷ [] ≡ column_sums 0 1 pairs → ⊥
no_amount [] count sums = let e : ◌≡◌ {A = ℕ} 5 0 = cc in omega arith
no_amount (pair ∷ pairs) count sums = omega (arith, count)

-- what an outcome shows of a view
abbrev count_shown : Outcome → ℕ
count_shown (View page) = page.count
count_shown _ = 0

abbrev sums_shown : Outcome → List ℕ
sums_shown (View page) = page.sums
sums_shown _ = []

not_refused : (page : Page) (refusal : Refusal) → View page ≡ Refused refusal → ⊥
not_refused page refusal e = cc

pub amount_left : AmountLeftIsRefuted
amount_left legal =
    elim legal.1 [
      | inl e ↦ no_amount (afresh at_least_five (after 1 (take 2 (moment (before_last left_history)).commits))) (ap count_shown e) (ap sums_shown e)
      | inr e ↦ not_refused _ _ e
    ]
