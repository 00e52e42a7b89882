-- Rows that a list of pairs names.
use Rattle.std.proofs.Common.{◌≡◌, ℕ, ◌+◌, ◌<◌, true, false, cond, List, [], ◌∷◌, ◌++◌, length, take, get_or, Option, Some, None, refl, ap, sym, ◌∙◌, subst}
use Rattle.std.proofs.lemmas.List.{take_more}
use Rattle.std.specs.Prelude.{T}
use Rattle.std.specs.Ordering.{eq_by_cmp}
use Rattle.std.specs.Option.{option_or}
use Rattle.std.specs.FinMap as map
use Rattle.std.specs.FinMap.Entries.{below_all}
use Rattle.mt_types.specs.Keys.{key_cmp}
use Rattle.mt_types.specs.Rows.{Rows}
use Rattle.mt_types.specs.declared.row.Row.{Row}
use Rattle.mt_view.specs.State.{StateView, IsAfresh, belonging, with_pairs}
use Rattle.mt_view.specs.Laws.{SortedPairsAreRows}
use Rattle.mt_commit.specs.Deltas.{with_row}
use Rattle.mt_types.proofs.MapLemmas.{Entries, key_order, key_apart}
use Rattle.mt_view.proofs.AfreshLemmas.{applied_is_afresh, below_none, same_key, first, second}

-- one pair more
pub with_pairs-push : (pairs : Entries) (key : List ℕ) (row : Row) (rows : Rows) → with_pairs (pairs ++ (key, row) ∷ []) rows ≡ map.insert (with_pairs pairs rows) key row
with_pairs-push [] key row rows = refl
with_pairs-push (pair ∷ pairs) key row rows = with_pairs-push pairs key row (map.insert rows pair.0 pair.1)

-- a row that is held under its key
pub held_is_afresh : (state : StateView) (key : List ℕ) (row : Row) (rows : Rows) → IsAfresh state rows
    → IsAfresh (record state { rows = with_row key (belonging state.spec key (Some row)) state.rows }) (map.insert rows key row)
held_is_afresh state key row rows h = applied_is_afresh state (record { number = state.at; key = key; before = None; after = Some row }) rows h

-- what pairs in the order of their keys tell of a key
told : (q : List ℕ) (pairs : Entries) (rows : Rows) → T (map.is_sorted key_cmp pairs) → map.get (with_pairs pairs rows) q ≡ option_or (map.find key_cmp q pairs) (map.get rows q)
told q [] rows h = refl
told q (pair ∷ pairs) rows h =
    told q pairs (map.insert rows pair.0 pair.1) (second _ _ h)
    ∙ ap (option_or (map.find key_cmp q pairs)) (map.get-insert key_order rows pair.0 pair.1 q)
    ∙ elim (eq_by_cmp key_cmp q pair.0) as (λ t. eq_by_cmp key_cmp q pair.0 ≡ t
    → option_or (map.find key_cmp q pairs) (cond t (Some pair.1) (map.get rows q)) ≡ option_or (cond t (Some pair.1) (map.find key_cmp q pairs)) (map.get rows q)) [
      | true ↦ λ t.
          let none : map.find key_cmp q pairs ≡ None = below_none q pairs (subst (λ k. T (below_all key_cmp k pairs)) (sym (same_key q pair.0 t)) (first _ _ h)) in
          ap (λ o. option_or o (Some pair.1)) none
      | false ↦ λ t. refl
    ] refl

or_none : (o : Option Row) → option_or o None ≡ o
or_none None = refl
or_none (Some row) = refl

sorted_is : (pairs : Entries) → T (map.is_sorted key_cmp pairs) → map.entries (with_pairs pairs map.empty) ≡ pairs
sorted_is pairs h =
    let same : with_pairs pairs map.empty ≡ map.from_sorted pairs = map.same_map key_order key_apart _ _ (λ q.
    told q pairs map.empty h ∙ ap (option_or (map.find key_cmp q pairs)) (map.get-empty key_cmp q) ∙ or_none _ ∙ sym (map.get-from_sorted key_cmp pairs q h)) in
    ap map.entries same ∙ map.entries-from_sorted key_cmp pairs h

pub sorted_pairs_are_rows : SortedPairsAreRows
sorted_pairs_are_rows pairs sorted = sorted_is pairs (subst T (sym sorted) tt)

-- one pair more is taken in
pub taken_in_more : (start old new : StateView) (pairs : Entries) (i : ℕ) (pair : List ℕ × Row) → i < length pairs → pair ≡ get_or pairs i pair
    → new ≡ record old { rows = with_row pair.0 (belonging old.spec pair.0 (Some pair.1)) old.rows }
    → ((rows : Rows) → IsAfresh start rows → IsAfresh old (with_pairs (take i pairs) rows))
    → (rows : Rows) → IsAfresh start rows → IsAfresh new (with_pairs (take (i + 1) pairs) rows)
taken_in_more start old new pairs i pair less is held so_far rows h =
    let more : take (i + 1) pairs ≡ take i pairs ++ pair ∷ [] =
    take_more pairs i pair less ∙ ap (λ (p : List ℕ × Row). take i pairs ++ p ∷ []) (sym is) in
    subst (λ (s : StateView). IsAfresh s (with_pairs (take (i + 1) pairs) rows)) (sym held)
    (subst (IsAfresh (record old { rows = with_row pair.0 (belonging old.spec pair.0 (Some pair.1)) old.rows }))
    (sym (ap (λ (ps : Entries). with_pairs ps rows) more ∙ with_pairs-push (take i pairs) pair.0 pair.1 rows))
    (held_is_afresh old pair.0 pair.1 (with_pairs (take i pairs) rows) (so_far rows h)))
