-- What a scan and the deltas since its begin come to, in terms of rows alone.
use Rattle.std.proofs.Common.{◌≡◌, ℕ, ◌⊎◌, inl, inr, Bool, true, false, cond, ◌&&◌, List, [], ◌∷◌, ◌++◌, Option, Some, None, IsSome, refl, ap, sym, ◌∙◌, subst}
use Rattle.std.specs.Ordering.{eq_by_cmp}
use Rattle.std.specs.FinMap as map
use Rattle.std.proofs.lemmas.Bool.{false≢true}
use Rattle.mt_types.specs.Keys.{key_cmp}
use Rattle.mt_types.specs.Rows.{Rows}
use Rattle.mt_types.specs.Views.{passes}
use Rattle.mt_types.specs.declared.row.Row.{Row}
use Rattle.mt_types.specs.declared.row.Delta.{Delta}
use Rattle.mt_types.specs.declared.view.ViewSpec.{ViewSpec}
use Rattle.mt_types.specs.declared.view.ViewSpec.TheVariants.{Range, Prefix}
use Rattle.mt_commit.proofs.RowLemmas.{get-with_row}
use Rattle.mt_view.specs.State.{StateView, belonging, applied}
use Rattle.mt_view.proofs.AfreshLemmas.{afresh_at, afresh_from_each, belonging-cond}
use Rattle.mt_works.specs.History.{GoesBy, WasAt, WasThroughout, is_within, row_after}
use Rattle.mt_works.specs.Laws.{ScansLeadToTheEnd, DeltasLeadOn, LedIsAfresh}

-- one delta more
row_after-push : (deltas : List Delta) (delta : Delta) (key : List ℕ) (row : Option Row)
    → row_after (deltas ++ delta ∷ []) key row ≡ cond (eq_by_cmp key_cmp key delta.key) delta.after (row_after deltas key row)
row_after-push [] delta key row = refl
row_after-push (d ∷ deltas) delta key row = row_after-push deltas delta key (cond (eq_by_cmp key_cmp key d.key) d.after row)

-- from what stood under a key at any of the moments, the deltas make what stands there at the newest
caught_up : (rows : Rows) (past : List Rows) (deltas : List Delta) → GoesBy (rows ∷ past) deltas → (key : List ℕ) (row : Option Row) → WasAt (rows ∷ past) key row
    → row_after deltas key row ≡ map.get rows key
caught_up rows [] deltas none key row (inl e) = ap (λ (ds : List Delta). row_after ds key row) none ∙ sym e
caught_up rows [] deltas none key row (inr h) = absurd h
caught_up rows (before ∷ past) deltas (inl (same, goes)) key row (inl e) = caught_up before past deltas goes key row (inl (ap (λ (m : Rows). map.get m key) (sym same) ∙ e)) ∙ ap (λ (m : Rows). map.get m key) (sym same)
caught_up rows (before ∷ past) deltas (inl (same, goes)) key row (inr was) = caught_up before past deltas goes key row was ∙ ap (λ (m : Rows). map.get m key) (sym same)
caught_up rows (before ∷ past) deltas (inr (older, delta, is, made, goes)) key row was =
    ap (λ (ds : List Delta). row_after ds key row) is ∙ row_after-push older delta key row ∙ there (λ r w. caught_up before past older goes key r w) was ∙ sym now
  where
    now : map.get rows key ≡ cond (eq_by_cmp key_cmp key delta.key) delta.after (map.get before key)
    now = ap (λ (m : Rows). map.get m key) made ∙ get-with_row delta.key delta.after before key

    newest : ((r : Option Row) → WasAt (before ∷ past) key r → row_after older key r ≡ map.get before key) → map.get rows key ≡ row → (t : Bool) → eq_by_cmp key_cmp key delta.key ≡ t → cond t delta.after (row_after older key row) ≡ cond t delta.after (map.get before key)
    newest earlier e true is_key = refl
    newest earlier e false other =
        let same : map.get before key ≡ row = sym (ap (λ (t : Bool). cond t delta.after (map.get before key)) other) ∙ sym now ∙ e in
        earlier row (inl same)

    there : ((r : Option Row) → WasAt (before ∷ past) key r → row_after older key r ≡ map.get before key) → (map.get rows key ≡ row) ⊎ WasAt (before ∷ past) key row
        → cond (eq_by_cmp key_cmp key delta.key) delta.after (row_after older key row) ≡ cond (eq_by_cmp key_cmp key delta.key) delta.after (map.get before key)
    there earlier (inl e) = newest earlier e (eq_by_cmp key_cmp key delta.key) refl
    there earlier (inr h) = ap (cond (eq_by_cmp key_cmp key delta.key) delta.after) (earlier row h)

-- of a key that isn't the view's no row belongs to it
outside : (spec : ViewSpec) (key : List ℕ) → is_within spec key ≡ false → (row : Option Row) → belonging spec key row ≡ None
outside spec key out None = refl
outside (Range lo hi test) key out (Some row) = ap (λ (b : Bool). cond (b && passes test row) (Some row) None) out
outside (Prefix prefix test) key out (Some row) = ap (λ (b : Bool). cond (b && passes test row) (Some row) None) out

-- the key had a row at each moment, or at some moment none
throughout_or_not : (moments : List Rows) (key : List ℕ) → WasThroughout moments key ⊎ WasAt moments key None
throughout_or_not [] key = inl tt
throughout_or_not (rows ∷ past) key = go (map.get rows key) refl (throughout_or_not past key)
  where
    go : (row : Option Row) → map.get rows key ≡ row → WasThroughout past key ⊎ WasAt past key None → WasThroughout (rows ∷ past) key ⊎ WasAt (rows ∷ past) key None
    go None e h = inr (inl e)
    go (Some row) e (inl h) = inl (subst (λ (o : Option Row). IsSome o) (sym e) refl, h)
    go (Some row) e (inr h) = inr (inr h)

-- the deltas lead the state to these rows at the key
abbrev LedAt : List Delta → Rows → StateView → List ℕ → Type 0
LedAt deltas rows state key = (row : Option Row) × (map.get state.rows key ≡ belonging state.spec key row) × (row_after deltas key row ≡ map.get rows key)

pub scans_lead : ScansLeadToTheEnd
scans_lead rows read past deltas state goes is_read afresh = record { from = λ key. by_key key (is_within state.spec key) refl (map.get read key) refl }
  where
    led : (key : List ℕ) (row : Option Row) → map.get state.rows key ≡ belonging state.spec key row → WasAt (rows ∷ past) key row → LedAt deltas rows state key
    led key row holds was = (row, holds, caught_up rows past deltas goes key row was)

    absent : (key : List ℕ) → is_within state.spec key ≡ true → map.get read key ≡ None → WasThroughout (rows ∷ past) key ⊎ WasAt (rows ∷ past) key None → LedAt deltas rows state key
    absent key within none (inl h) =
        absurd (let some : IsSome (map.get read key) = is_read.covered key within h in
        false≢true (subst (λ (o : Option Row). IsSome o) none some))
    absent key within none (inr h) = led key None (afresh_at state read afresh key ∙ ap (belonging state.spec key) none) h

    by_key : (key : List ℕ) (within : Bool) → is_within state.spec key ≡ within → (got : Option Row) → map.get read key ≡ got → LedAt deltas rows state key
    by_key key true within (Some row) got = led key (Some row) (afresh_at state read afresh key ∙ ap (belonging state.spec key) got) (is_read.stood key row got)
    by_key key true within None none = absent key within none (throughout_or_not (rows ∷ past) key)
    by_key key false out got e =
        led key (map.get rows key) (afresh_at state read afresh key ∙ outside state.spec key out (map.get read key) ∙ sym (outside state.spec key out (map.get rows key))) (inl refl)

pub deltas_lead : DeltasLeadOn
deltas_lead delta deltas rows state leads = record { from = λ key. on_key key (leads.from key) }
  where
    on_key : (key : List ℕ) → LedAt (delta ∷ deltas) rows state key → LedAt deltas rows (applied delta state) key
    on_key key (row, holds, leads_to) = (
      cond (eq_by_cmp key_cmp key delta.key) delta.after row,
      get-with_row delta.key (belonging state.spec delta.key delta.after) state.rows key
          ∙ ap (cond (eq_by_cmp key_cmp key delta.key) (belonging state.spec delta.key delta.after)) holds
          ∙ belonging-cond state.spec key delta.key delta.after row,
      leads_to,
    )

pub led_is_afresh : LedIsAfresh
led_is_afresh rows state leads = afresh_from_each state rows (λ key. let (row, holds, is) = leads.from key in holds ∙ ap (belonging state.spec key) is)
