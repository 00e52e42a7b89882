-- When a state is afresh: told key by key, and kept by each delta.
use Rattle.std.proofs.Common.{◌≡◌, ℕ, Bool, true, false, cond, ◌&&◌, List, [], ◌∷◌, filter, Option, Some, None, refl, ap, sym, ◌∙◌, subst}
use Rattle.std.specs.Prelude.{T}
use Rattle.std.specs.declared.cmp.Ordering.{Ordering}
use Rattle.std.specs.declared.cmp.Ordering.TheVariants.{Less, Equal, Greater}
use Rattle.std.specs.Ordering.{is_lt, is_eq, eq_by_cmp}
use Rattle.std.specs.FinMap as map
use Rattle.std.specs.FinMap.Entries.{below_all}
use Rattle.mt_types.specs.Keys.{key_cmp}
use Rattle.mt_types.specs.Rows.{Rows}
use Rattle.mt_types.specs.Views.{belongs, afresh}
use Rattle.mt_types.specs.declared.row.Row.{Row}
use Rattle.mt_types.specs.declared.view.ViewSpec.{ViewSpec}
use Rattle.mt_commit.specs.Deltas.{redo}
use Rattle.mt_commit.proofs.RowLemmas.{get-with_row}
use Rattle.mt_view.specs.State.{StateView, IsAfresh, belonging, applied}
use Rattle.mt_view.specs.Laws.{AppliedIsAfresh}
use Rattle.mt_types.proofs.MapLemmas.{Entries, key_order, key_apart}

both : (a b : Bool) → T a → T b → T (a && b)
both true b p q = q
both false b p q = p

pub first : (a b : Bool) → T (a && b) → T a
first true b p = tt
first false b p = p

pub second : (a b : Bool) → T (a && b) → T b
second true b p = p
second false b p = absurd p

less : (o : Ordering) → T (is_lt o) → o ≡ Less
less Less p = refl
less Equal p = absurd p
less Greater p = absurd p

equal : (o : Ordering) → is_eq o ≡ true → o ≡ Equal
equal Less p = cc
equal Equal p = refl
equal Greater p = cc

-- keys that tie are the same
pub same_key : (q k : List ℕ) → eq_by_cmp key_cmp q k ≡ true → q ≡ k
same_key q k t = key_apart q k (equal (key_cmp q k) t)

pub below_none : (q : List ℕ) (es : Entries) → T (below_all key_cmp q es) → map.find key_cmp q es ≡ None
below_none q [] h = refl
below_none q (e ∷ es) h =
    ap (λ o. cond (is_eq o) (Some e.1) (map.find key_cmp q es)) (less (key_cmp q e.0) (first _ _ h)) ∙ below_none q es (second _ _ h)

below-filter : (spec : ViewSpec) (q : List ℕ) (es : Entries) → T (below_all key_cmp q es) → T (below_all key_cmp q (filter (belongs spec) es))
below-filter spec q [] h = tt
below-filter spec q (e ∷ es) h =
    let rest = below-filter spec q es (second _ _ h) in
    elim (belongs spec e) as (λ b. T (below_all key_cmp q (cond b (e ∷ filter (belongs spec) es) (filter (belongs spec) es)))) [
      | true ↦ both _ _ (first _ _ h) rest
      | false ↦ rest
    ]

sorted-filter : (spec : ViewSpec) (es : Entries) → T (map.is_sorted key_cmp es) → T (map.is_sorted key_cmp (filter (belongs spec) es))
sorted-filter spec [] h = tt
sorted-filter spec (e ∷ es) h =
    let rest = sorted-filter spec es (second _ _ h) in
    elim (belongs spec e) as (λ b. T (map.is_sorted key_cmp (cond b (e ∷ filter (belongs spec) es) (filter (belongs spec) es)))) [
      | true ↦ both _ _ (below-filter spec e.0 es (first _ _ h)) rest
      | false ↦ rest
    ]

-- what a filter leaves under a key
found-filter : (spec : ViewSpec) (q : List ℕ) (es : Entries) → T (map.is_sorted key_cmp es) → map.find key_cmp q (filter (belongs spec) es) ≡ belonging spec q (map.find key_cmp q es)
found-filter spec q [] h = refl
found-filter spec q (e ∷ es) h =
    let kept = filter (belongs spec) es in
    let rest = found-filter spec q es (second _ _ h) in
    elim (eq_by_cmp key_cmp q e.0) as (λ t. eq_by_cmp key_cmp q e.0 ≡ t → map.find key_cmp q (cond (belongs spec e) (e ∷ kept) kept) ≡ belonging spec q (cond t (Some e.1) (map.find key_cmp q es))) [
      | true ↦ λ t.
          let same = same_key q e.0 t in
          let none : map.find key_cmp q es ≡ None = below_none q es (subst (λ k. T (below_all key_cmp k es)) (sym same) (first _ _ h)) in
          (elim (belongs spec e) as (λ b. map.find key_cmp q (cond b (e ∷ kept) kept) ≡ cond b (Some e.1) None) [
            | true ↦ ap (λ b. cond b (Some e.1) (map.find key_cmp q kept)) t
            | false ↦ rest ∙ ap (belonging spec q) none
          ])
          ∙ ap (λ k. cond (belongs spec (k, e.1)) (Some e.1) None) (sym same)
      | false ↦ λ t.
          (elim (belongs spec e) as (λ b. map.find key_cmp q (cond b (e ∷ kept) kept) ≡ map.find key_cmp q kept) [
            | true ↦ ap (λ b. cond b (Some e.1) (map.find key_cmp q kept)) t
            | false ↦ refl
          ])
          ∙ rest
    ] refl

get-afresh : (spec : ViewSpec) (rows : Rows) (q : List ℕ) → map.find key_cmp q (afresh spec rows) ≡ belonging spec q (map.get rows q)
get-afresh spec rows q = found-filter spec q (map.entries rows) (map.entries_sorted rows) ∙ ap (belonging spec q) (sym (map.get-entries rows q))

-- what an afresh state holds under each key
pub afresh_at : (state : StateView) (rows : Rows) → IsAfresh state rows → (q : List ℕ) → map.get state.rows q ≡ belonging state.spec q (map.get rows q)
afresh_at state rows h q = map.get-entries state.rows q ∙ ap (map.find key_cmp q) h ∙ get-afresh state.spec rows q

-- and a state that holds that is afresh
pub afresh_from_each : (state : StateView) (rows : Rows) → ((q : List ℕ) → map.get state.rows q ≡ belonging state.spec q (map.get rows q)) → IsAfresh state rows
afresh_from_each state rows h =
    let sorted = sorted-filter state.spec (map.entries rows) (map.entries_sorted rows) in
    let same : state.rows ≡ map.from_sorted (afresh state.spec rows) =
    map.same_map key_order key_apart _ _ (λ q. h q ∙ sym (get-afresh state.spec rows q) ∙ sym (map.get-from_sorted key_cmp (afresh state.spec rows) q sorted)) in
    ap map.entries same ∙ map.entries-from_sorted key_cmp (afresh state.spec rows) sorted

pub belonging-cond : (spec : ViewSpec) (q key : List ℕ) (row old : Option Row)
    → cond (eq_by_cmp key_cmp q key) (belonging spec key row) (belonging spec q old) ≡ belonging spec q (cond (eq_by_cmp key_cmp q key) row old)
belonging-cond spec q key row old =
    elim (eq_by_cmp key_cmp q key) as (λ b. eq_by_cmp key_cmp q key ≡ b → cond b (belonging spec key row) (belonging spec q old) ≡ belonging spec q (cond b row old)) [
      | true ↦ λ t. ap (λ k. belonging spec k row) (sym (same_key q key t))
      | false ↦ λ t. refl
    ] refl

pub applied_is_afresh : AppliedIsAfresh
applied_is_afresh state delta rows h =
    let kept = belonging state.spec delta.key delta.after in
    afresh_from_each (applied delta state) (redo delta rows) (λ q.
    get-with_row delta.key kept state.rows q
    ∙ ap (cond (eq_by_cmp key_cmp q delta.key) kept) (afresh_at state rows h q)
    ∙ belonging-cond state.spec q delta.key delta.after (map.get rows q)
    ∙ ap (belonging state.spec q) (sym (get-with_row delta.key delta.after rows q)))
