-- The state of a view that is advanced over a log.
use Rattle.std.proofs.Common.{◌≡◌, ℕ, ◌+◌, List, [], ◌∷◌, ◌++◌, take, Some, refl, ap, sym, ◌∙◌, subst, arith}
use Rattle.std.specs.Prelude.{slice_get}
use Rattle.std.specs.FinMap as map
use Rattle.std.proofs.lemmas.Option.{slice_get_within}
use Rattle.mt_types.specs.Rows.{Rows}
use Rattle.mt_types.specs.declared.row.Delta.{Delta}
use Rattle.mt_types.specs.declared.view.ViewSpec.{ViewSpec}
use Rattle.mt_commit.specs.Deltas.{redo}
use Rattle.mt_view.specs.State.{StateView, IsAfresh, applied}
use Rattle.mt_check.specs.Receipts.{rows_after, rows_at, IsSoundLog}
use Rattle.mt_check.specs.Judging.{IsStanding}
use Rattle.mt_check.proofs.LogLemmas.{take_more}
use Rattle.mt_check.proofs.WriteLemmas.{numbered_at}

rows_after-append : (deltas : List Delta) (d : Delta) (rows : Rows) → rows_after (deltas ++ d ∷ []) rows ≡ redo d (rows_after deltas rows)
rows_after-append [] d rows = refl
rows_after-append (x ∷ deltas) d rows = rows_after-append deltas d (redo x rows)

-- the rows at the next number
pub next_rows : (deltas : List Delta) (i : ℕ) (d : Delta) → slice_get deltas i ≡ Some d → rows_at deltas (i + 1) ≡ redo d (rows_at deltas i)
next_rows deltas i d e = ap (λ (ds : List Delta). rows_after ds map.empty) (take_more deltas i d e) ∙ rows_after-append (take i deltas) d map.empty

pub record TakenOn (C : ℕ) (deltas : List Delta) (spec : ViewSpec) (number : ℕ) (state : StateView) : Type 0 where
  pub at : state.at ≡ number
  pub standing : IsStanding C deltas spec state

-- a state that is advanced by the next delta
pub standing_next : (C : ℕ) (deltas : List Delta) (spec : ViewSpec) (number : ℕ) (state new : StateView) (d : Delta) → IsSoundLog deltas → state.at ≡ number → IsStanding C deltas spec state
    → slice_get deltas number ≡ Some d → new ≡ applied d state → ((rows : Rows) → IsAfresh state rows → IsAfresh new (redo d rows))
    → TakenOn C deltas spec (number + 1) new
standing_next C deltas spec number state new d sound at standing found made afresh =
    let counted = numbered_at 0 deltas number d sound.numbered found in
    let new_at : new.at ≡ number + 1 = ap (λ (s : StateView). s.at) made ∙ omega (arith, counted) in
    let within = slice_get_within deltas number d found in
    let before = subst (λ (n : ℕ). IsAfresh state (rows_at deltas n)) at standing.afresh in
    let after = subst (λ (rows : Rows). IsAfresh new rows) (sym (next_rows deltas number d found)) (afresh (rows_at deltas number) before) in
    record {
      at = new_at;
      standing = record {
        spec = ap (λ (s : StateView). s.spec) made ∙ standing.spec;
        columns = ap (λ (s : StateView). s.columns) made ∙ standing.columns;
        reached = omega (arith, new_at, within);
        afresh = subst (λ (n : ℕ). IsAfresh new (rows_at deltas n)) (sym new_at) after;
      };
    }
