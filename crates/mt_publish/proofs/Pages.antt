-- The page of a state after deltas is that of its view afresh.
use Rattle.std.proofs.Common.{◌≡◌, ℕ, List, [], ◌∷◌, refl, ap, ◌∙◌}
use Rattle.mt_types.specs.Rows.{Rows}
use Rattle.mt_types.specs.Views.{afresh}
use Rattle.mt_types.specs.declared.row.Delta.{Delta}
use Rattle.mt_commit.specs.Deltas.{redo}
use Rattle.mt_view.specs.State.{StateView, IsAfresh, applied, page_of_state}
use Rattle.mt_view.proofs.AfreshLemmas.{applied_is_afresh}
use Rattle.mt_publish.specs.Folds.{applied_all, redo_all, last_number, page_with, page_of_rows}

afresh_after : (o : StateView) (rows : Rows) (ds : List Delta) → IsAfresh o rows → IsAfresh (applied_all o ds) (redo_all rows ds)
afresh_after o rows [] h = h
afresh_after o rows (d ∷ ds) h = afresh_after (applied d o) (redo d rows) ds (applied_is_afresh o d rows h)

pub at_after : (o : StateView) (ds : List Delta) → (applied_all o ds).at ≡ last_number o.at ds
at_after o [] = refl
at_after o (d ∷ ds) = at_after (applied d o) ds

spec_after : (o : StateView) (ds : List Delta) → (applied_all o ds).spec ≡ o.spec
spec_after o [] = refl
spec_after o (d ∷ ds) = spec_after (applied d o) ds

columns_after : (o : StateView) (ds : List Delta) → (applied_all o ds).columns ≡ o.columns
columns_after o [] = refl
columns_after o (d ∷ ds) = columns_after (applied d o) ds

-- the page of the state after deltas is that of the view of the rows after them
pub page_after : (o : StateView) (rows : Rows) (ds : List Delta) (start : List ℕ) (limit : ℕ) → IsAfresh o rows
    → page_of_state (applied_all o ds) start limit ≡ page_of_rows o.spec o.columns (last_number o.at ds) (redo_all rows ds) start limit
page_after o rows ds start limit h =
    let pairs = afresh_after o rows ds h ∙ ap (λ z. afresh z (redo_all rows ds)) (spec_after o ds) in
    λ i. page_with (columns_after o ds i) (at_after o ds i) (pairs i) start limit
