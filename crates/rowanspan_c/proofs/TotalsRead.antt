-- The totals of a view, written sum by sum, and what a call reports of them.
use Rattle.std.proofs.Common.{◌≡◌, ◌+◌, ◌*◌, ◌<◌, ◌≤◌, ℕ, zero, suc, List, [], ◌∷◌, ◌++◌, length, Bool, refl, sym, ap, subst, ◌∙◌, inl, inr, arith, length-append}
use Rattle.std.specs.List.{flat_map}
use Rattle.std.specs.Prelude.{Result, Ok, Err, Option, Some, None}
use Rattle.std.proofs.lemmas.Bool.Decides.{leb_tells}
use Rattle.std.proofs.lemmas.List.{flat_map_more}
use Rattle.mt_types.specs.Limits.{page_fault, refused_if}
use Rattle.mt_types.specs.Views.{column_sum, column_sums}
use Rattle.mt_types.specs.declared.event.Outcome.TheVariants.{View}
use Rattle.mt_types.specs.declared.refusal.Refusal.{Refusal}
use Rattle.mt_types.specs.declared.refusal.Refusal.TheVariants.{NoSuchView, Behind}
use Rattle.mt_types.specs.declared.row.Row.{Row}
use Rattle.mt_view.specs.State.{StateView, page_of_state}
use Rattle.mt_view.specs.Views.{state_at}
use Rattle.mt_index.specs.Stands.{MachineView, ReadsPage}
use Rattle.rowanspan_c.specs.Placed.{Writes}
use Rattle.rowanspan_c.specs.Questions.{ReadsTotals, state_refusal}
use Rattle.rowanspan_c.specs.Spelling.{number_spelling, list_spelling, sum_spelling, totals_spelling}
use Rattle.rowanspan_c.specs.Told.{HandsOut, TellsRead, TellsRefusal}
use Rattle.rowanspan_c.proofs.Placed.{then_writes}

-- ---- the sums

-- the sums of one more column
sums_more : (column n : ℕ) (pairs : List (List ℕ × Row)) → column_sums column (suc n) pairs ≡ column_sums column n pairs ++ column_sum (column + n) pairs ∷ []
sums_more column zero pairs =
    let same : column ≡ column + zero = omega arith in ap (λ (c : ℕ). column_sum c pairs ∷ []) same
sums_more column (suc n) pairs =
    let same : column + 1 + n ≡ column + suc n = omega arith in
    ap (λ (rest : List ℕ). column_sum column pairs ∷ rest) (sums_more (column + 1) n pairs ∙ ap (λ (c : ℕ). column_sums (column + 1) n pairs ++ column_sum c pairs ∷ []) same)

pub sums_many : (column n : ℕ) (pairs : List (List ℕ × Row)) → length (column_sums column n pairs) ≡ n
sums_many column zero pairs = refl
sums_many column (suc n) pairs = ap suc (sums_many (column + 1) n pairs)

-- a sum has 16 bytes
pub sums_length : (column n : ℕ) (pairs : List (List ℕ × Row)) → length (flat_map sum_spelling (column_sums column n pairs)) ≡ 16 * n
sums_length column zero pairs = refl
sums_length column (suc n) pairs =
    let both = length-append (sum_spelling (column_sum column pairs)) (flat_map sum_spelling (column_sums (column + 1) n pairs)) in
    let rest = sums_length (column + 1) n pairs in omega (arith, both, rest)

-- the sum of the next column is written after those before it
pub sum_written : (n sum : ℕ) (pairs : List (List ℕ × Row)) (old mid new : List ℕ) (at p q : ℕ) → sum ≡ column_sum n pairs
    → Writes (flat_map sum_spelling (column_sums 0 n pairs)) at old mid p → Writes (sum_spelling sum) p mid new q
    → Writes (flat_map sum_spelling (column_sums 0 (n + 1) pairs)) at old new q
sum_written n sum pairs old mid new at p q is before next =
    let one : n + 1 ≡ suc n = omega arith in
    let from_first : n ≡ 0 + n = omega arith in
    subst (λ (many : ℕ). Writes (flat_map sum_spelling (column_sums 0 many pairs)) at old new q) (sym one)
    (subst (λ (bytes : List ℕ). Writes bytes at old new q)
    (flat_map_more sum_spelling [] (column_sums 0 n pairs) sum
    ∙ ap (λ (last : ℕ). flat_map sum_spelling (column_sums 0 n pairs ++ last ∷ [])) (is ∙ ap (λ (c : ℕ). column_sum c pairs) from_first)
    ∙ ap (flat_map sum_spelling) (sym (sums_more 0 n pairs)))
    (then_writes (flat_map sum_spelling (column_sums 0 n pairs)) (sum_spelling sum) old mid new at p q before next))

-- ---- the totals

pub totals_length : (at count columns : ℕ) (pairs : List (List ℕ × Row))
    → length (number_spelling at ++ number_spelling count ++ list_spelling sum_spelling (column_sums 0 columns pairs)) ≡ 24 + 16 * columns
totals_length at count columns pairs =
    let sums = flat_map sum_spelling (column_sums 0 columns pairs) in
    let many = number_spelling (length (column_sums 0 columns pairs)) in
    let first = length-append (number_spelling at) (number_spelling count) in
    let last = length-append many sums in
    let whole = length-append (number_spelling at ++ number_spelling count) (many ++ sums) in
    let each = sums_length 0 columns pairs in omega (arith, first, last, whole, each)

pub totals_written : (at count columns : ℕ) (pairs : List (List ℕ × Row)) (old one two three new : List ℕ) (p q r end : ℕ)
    → Writes (number_spelling at) 0 old one p → Writes (number_spelling count) p one two q
    → Writes (number_spelling columns) q two three r → Writes (flat_map sum_spelling (column_sums 0 columns pairs)) r three new end
    → Writes (number_spelling at ++ number_spelling count ++ list_spelling sum_spelling (column_sums 0 columns pairs)) 0 old new end
totals_written at count columns pairs old one two three new p q r end first second third sums =
    let many : columns ≡ length (column_sums 0 columns pairs) = sym (sums_many 0 columns pairs) in
    let all = flat_map sum_spelling (column_sums 0 columns pairs) in
    let listed = subst (λ (count : ℕ). Writes (number_spelling count ++ all) q two new end) many (then_writes (number_spelling columns) all two three new q r end third sums) in
    then_writes (number_spelling at ++ number_spelling count) (list_spelling sum_spelling (column_sums 0 columns pairs)) old two new 0 q end
    (then_writes (number_spelling at) (number_spelling count) old one two 0 p q first second) listed

-- ---- what is reported

module _ (s : MachineView) (view floor : ℕ) (old new : List ℕ) (status told : ℕ) where
  abbrev pub IsTotalled : Type 0
  IsTotalled = (read : Result (Option (List ℕ)) Refusal) × ReadsTotals s view floor read × TellsRead read old new status told

  pub none_totalled : state_at view s.views.views ≡ None → new ≡ old → TellsRefusal NoSuchView status told → IsTotalled
  none_totalled none same tells =
      (Err NoSuchView, subst (λ (there : Option StateView). state_refusal there floor ≡ Some NoSuchView) (sym none) refl, (same, tells))

  pub behind_totalled : (state : StateView) → state_at view s.views.views ≡ Some state → state.at < floor → new ≡ old
      → TellsRefusal (Behind state.at) status told → IsTotalled
  behind_totalled state there low same tells =
      let caused : state_refusal (Some state) floor ≡ Some (Behind state.at) =
      elim (leb_tells (suc state.at) floor) [
        | inl is ↦ ap (λ (b : Bool). refused_if b (Behind state.at)) is.0
        | inr high ↦ absurd (let above = high.1 in omega (arith, above, low))
      ] in
      (Err (Behind state.at), subst (λ (found : Option StateView). state_refusal found floor ≡ Some (Behind state.at)) (sym there) caused, (same, tells))

  pub state_totalled : (state : StateView) → state_at view s.views.views ≡ Some state → floor ≤ state.at
      → HandsOut (totals_spelling (page_of_state state [] 1)) old new status told → IsTotalled
  state_totalled state there above hands = (
    Ok (Some (totals_spelling (page_of_state state [] 1))),
    (
      page_of_state state [] 1,
      subst (λ (found : Option StateView). ReadsPage (page_fault [] 1) found floor [] 1 (View (page_of_state state [] 1))) (sym there) (inr (above, inl refl)),
      refl,
    ),
    hands,
  )
