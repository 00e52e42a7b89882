-- A map has one answer to a read of one moment.
use Rattle.std.proofs.Common.{ℕ, ◌≡◌, ◌-◌, ◌⊎◌, inl, inr, false, List, [], ◌∷◌, refl, sym, ap, subst, ◌∙◌, arith}
use Rattle.std.specs.Prelude.{Option, Some}
use Rattle.std.specs.FinMap.{get}
use Rattle.mt_types.specs.Rows.{Rows, shown}
use Rattle.mt_types.specs.declared.row.Row.{Row}
use Rattle.mt_reads.specs.Walks.{IsAfter}
use Rattle.mt_reads.specs.Back.{IsPrevious}
use Rattle.mt_reads.specs.Quiet.{IsQuietAnswer}
use Rattle.mt_reads.specs.Ranges.{IsRangeBack}
use Rattle.mt_reads.specs.declared.quiet.QuietRead.{QuietRead}
use Rattle.mt_reads.specs.declared.quiet.QuietRead.TheVariants.{Gets, RangeBack, Count}
use Rattle.mt_reads.specs.declared.quiet.QuietAnswer.{QuietAnswer}
use Rattle.mt_reads.specs.declared.quiet.QuietAnswer.TheVariants.{Rows as RowsAnswer, Pairs as PairsAnswer, Count as CountAnswer}
use Rattle.mt_reads.proofs.BackLemmas.{not_after}

abbrev Shown : Type 0
Shown = List (List ℕ × Row)

-- two keys of which none is after the other
alike : (one other : List ℕ) → IsAfter one false other → IsAfter other false one → one ≡ other
alike one other (inl same) back = same
alike one other (inr less) back = absurd (not_after other one back less)

module _ (map : Rows) (asked : List ℕ) where
  same_previous : (before : Option (List ℕ)) (one other : List ℕ) (row its : Row) → IsPrevious map before one row → IsPrevious map before other its → (one ≡ other) × (row ≡ its)
  same_previous before one other row its (there, below, greatest) (has, within, most) =
      let key = alike one other (most one row there below) (greatest other its has within) in
      let found : ◌≡◌ {A = Option Row} (Some row) (Some its) = sym there ∙ ap (get map) key ∙ has in
      (key, cc)

  back_once : (before : Option (List ℕ)) (limit : ℕ) (one other : Shown) → IsRangeBack map asked before limit one → IsRangeBack map asked before limit other → one ≡ other
  back_once before limit [] [] range again = refl
  back_once before limit [] (pair ∷ pairs) (inl zero) (row, previous, is, some, more) = absurd (omega (arith, zero, some))
  back_once before limit [] (pair ∷ pairs) (inr none) (row, previous, is, some, more) = absurd (none pair.0 row previous.0 previous.1)
  back_once before limit (pair ∷ pairs) [] (row, previous, is, some, more) (inl zero) = absurd (omega (arith, zero, some))
  back_once before limit (pair ∷ pairs) [] (row, previous, is, some, more) (inr none) = absurd (none pair.0 row previous.0 previous.1)
  back_once before limit (one ∷ ones) (other ∷ others) (row, previous, is, some, more) (its, also, so, many, again) =
      let same = same_previous before one.0 other.0 row its previous also in
      let pair : one ≡ other = (λ i. (same.0 i, (is ∙ ap (shown asked) same.1 ∙ sym so) i)) in
      let rest = back_once (Some one.0) (limit - 1) ones others more (subst (λ (k : List ℕ). IsRangeBack map asked (Some k) (limit - 1) others) (sym same.0) again) in
      ap (λ (p : List ℕ × Row). p ∷ ones) pair ∙ ap (λ (ps : Shown). other ∷ ps) rest

pub quiet_once : (map : Rows) (read : QuietRead) (one other : QuietAnswer) → IsQuietAnswer map read one → IsQuietAnswer map read other → one ≡ other
quiet_once map (Gets keys asked) (RowsAnswer found) (RowsAnswer again) is so = ap (λ (f : List (Option Row)). RowsAnswer f) (is ∙ sym so)
quiet_once map (RangeBack before limit asked) (PairsAnswer pairs) (PairsAnswer again) is so = ap (λ (p : Shown). PairsAnswer p) (back_once map asked before limit pairs again is so)
quiet_once map (Count from to most) (CountAnswer count) (CountAnswer again) is so = ap (λ (n : ℕ). CountAnswer n) (is ∙ sym so)
quiet_once map (Gets keys asked) (RowsAnswer found) _ is so = absurd so
quiet_once map (RangeBack before limit asked) (PairsAnswer pairs) _ is so = absurd so
quiet_once map (Count from to most) (CountAnswer count) _ is so = absurd so
quiet_once map read _ other is so = absurd is
