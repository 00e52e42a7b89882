-- The rows of a legal history: of each number at most one, and if the last commit was a remove, of two numbers none.
use Rattle.std.proofs.Common.{◌≡◌, ◌≢◌, ◌<◌, ◌≤◌, ◌+◌, ◌-◌, ℕ, zero, suc, Bool, true, false, cond, List, [], ◌∷◌, ◌++◌, length, Option, Some, None, IsSome, ◌∙◌, ap, sym, subst, refl, inl, inr, ◌⊎◌, arith, length-append}
use Rattle.std.specs.Prelude.{slice_get}
use Rattle.std.specs.List.{AllByRecursion}
use Rattle.std.specs.Ordering.{eq_by_cmp}
use Rattle.std.specs.Cmp.{IsTotalOrder}
use Rattle.std.specs.Cmp.Lexicographic.{nat_list_cmp_total}
use Rattle.std.specs.FinMap as fin
use Rattle.std.specs.FinMap.{get, empty}
use Rattle.std.proofs.lemmas.Bool.Decides.{eqb_tells, leb_tells}
use Rattle.std.specs.Ordering.{is_eq}
use Rattle.std.proofs.lemmas.Cmp.{tied_itself}
use Rattle.std.proofs.lemmas.Option.{slice_get_within}
use Rattle.mt_types.specs.Keys.{key_cmp}
use Rattle.mt_types.specs.Rows.{Rows, after, after_from, after_change, new_columns, columns_before}
use Rattle.mt_types.specs.declared.row.Row.{Row}
use Rattle.mt_types.specs.declared.row.Change.{Change}
use Rattle.mt_types.specs.declared.row.Change.TheVariants.{Put, Drop}
use Rattle.mt_promise.specs.History.{History, moment}
use Rattle.mt_promise.specs.Legal.{Legal}
use Rattle.mt_promise.proofs.HistoryLemmas.{after-append}
use Rattle.mt_reach.specs.Reach.{Entry, row_in, Falls, EndsAt, LegalRowsPass}
use Rattle.mt_reach.proofs.Reaching.{same_key}
use Rattle.mt_reach.proofs.Removed.{removed_row}

key_order : IsTotalOrder key_cmp
key_order = nat_list_cmp_total

-- ---- a row was put by the commit of its version
pub record IsPutBy (base : ℕ) (cs : List Change) (key : List ℕ) (row : Row) : Type 0 where
  pub place : ℕ
  pub version : row.version ≡ base + place + 1
  pub sets : List (ℕ × List ℕ)
  pub there : slice_get cs place ≡ Some (Put key sets)

abbrev version_in : Option Row → ℕ
version_in None = 0
version_in (Some row) = row.version

IsNew : ℕ → Change → List ℕ → Row → Type 0
IsNew number c key row = (row.version ≡ number) × ((sets : List (ℕ × List ℕ)) × (c ≡ Put key sets))

put_or_kept : (number : ℕ) (k key : List ℕ) (sets : List (ℕ × List ℕ)) (put row : Row) (old : Option Row) (b : Bool) → put.version ≡ number → eq_by_cmp key_cmp key k ≡ b → cond b (Some put) old ≡ Some row
    → IsNew number (Put k sets) key row ⊎ (old ≡ Some row)
unfolding IsNew
put_or_kept number k key sets put row old true of at is = inl (ap version_in (sym is) ∙ of, (sets, ap (λ (l : List ℕ). Put l sets) (sym (same_key key k at))))
put_or_kept number k key sets put row old false of at is = inr is

kept_of : (key k : List ℕ) (row : Row) (old : Option Row) (b : Bool) → eq_by_cmp key_cmp key k ≡ b → cond b None old ≡ Some row → (eq_by_cmp key_cmp key k ≡ false) × (old ≡ Some row)
kept_of key k row old true at is = absurd (let clash : ◌≡◌ {A = Option Row} None (Some row) = is in cc)
kept_of key k row old false at is = (at, is)

changed : (C number : ℕ) (c : Change) (rs : Rows) (key : List ℕ) (row : Row) → get (after_change C number c rs) key ≡ Some row → IsNew number c key row ⊎ (get rs key ≡ Some row)
changed C number (Put k sets) rs key row e =
    let put : Row = record { version = number; columns = new_columns sets 0 (columns_before C (get rs k)) } in
    put_or_kept number k key sets put row (get rs key) (eq_by_cmp key_cmp key k) refl refl (sym (fin.get-insert key_order rs k put key) ∙ e)
changed C number (Drop k) rs key row e = inr (kept_of key k row (get rs key) (eq_by_cmp key_cmp key k) refl (sym (fin.get-remove key_order rs k key) ∙ e)).1

put_by : (C base : ℕ) (rs : Rows) (cs : List Change) (key : List ℕ) (row : Row) → get (after_from C base rs cs) key ≡ Some row → IsPutBy base cs key row ⊎ (get rs key ≡ Some row)
unfolding IsNew
put_by C base rs [] key row e = inr e
put_by C base rs (c ∷ cs) key row e = elim (put_by C (base + 1) (after_change C (base + 1) c rs) cs key row e) [
  | inl late ↦ let v = late.version in inl (record { place = suc late.place; version = omega (arith, v); sets = late.sets; there = late.there })
  | inr early ↦ elim (changed C (base + 1) c rs key row early) [
    | inl new ↦ let v = new.0 in inl (record { place = 0; version = omega (arith, v); sets = new.1.0; there = ap Some new.1.1 })
    | inr old ↦ inr old
  ]
]

pub put_since : (C : ℕ) (cs : List Change) (key : List ℕ) (row : Row) → get (after C cs) key ≡ Some row → IsPutBy 0 cs key row
put_since C cs key row e = elim (put_by C 0 empty cs key row e) [
  | inl is ↦ is
  | inr none ↦ absurd (let clash : ◌≡◌ {A = Option Row} None (Some row) = sym (fin.get-empty key_cmp key) ∙ none in cc)
]

get_added : (xs : List Change) (x : Change) → slice_get (xs ++ x ∷ []) (length xs) ≡ Some x
get_added [] x = refl
get_added (y ∷ xs) x = get_added xs x

get_before : (xs ys : List Change) (i : ℕ) (x : Change) → slice_get xs i ≡ Some x → slice_get (xs ++ ys) i ≡ Some x
get_before [] ys i x e = let clash : ◌≡◌ {A = Option Change} None (Some x) = e in cc
get_before (y ∷ xs) ys zero x e = e
get_before (y ∷ xs) ys (suc i) x e = get_before xs ys i x e

-- ---- a remove of a legal history found its row
AtLast : ℕ → List Change → Type 0
AtLast C commits = (cs : List Change) (key : List ℕ) → commits ≡ cs ++ Drop key ∷ [] → IsSome (get (after C cs) key)

at_last : (C : ℕ) (h : History) → Legal C h → (cs : List Change) (key : List ℕ) → (moment h).commits ≡ cs ++ Drop key ∷ [] → IsSome (get (after C cs) key)
at_last C h legal cs key e = removed_row C h legal cs [] key e

-- ---- counting
falls_few : (m : ℕ) (es : List Entry) → Falls m es → length es ≤ m
falls_few m [] falls = omega arith
falls_few m (e ∷ es) falls = let few = falls_few (e.1.version - 1) es falls.2 in omega (arith, few, falls.0, falls.1)

one_missing : (m v : ℕ) (es : List Entry) → Falls m es → 0 < v → v ≤ m → AllByRecursion (λ (e : Entry). e.1.version ≢ v) es → length es < m
one_missing m v [] falls some most all = omega (arith, some, most)
one_missing m v (e ∷ es) falls some most all = elim (eqb_tells e.1.version v) [
  | inl same ↦ absurd (all.0 same.1)
  | inr other ↦ elim (leb_tells v e.1.version) [
    | inl below ↦
        let few = one_missing (e.1.version - 1) v es falls.2 some (omega (arith, below.1, other.1)) all.1 in
        omega (arith, few, falls.1, some, below.1, other.1)
    | inr above ↦ let few = falls_few (e.1.version - 1) es falls.2 in omega (arith, few, falls.0, above.1, most)
  ]
]

below : (m : ℕ) (es : List Entry) (key : List ℕ) (row : Row) → Falls m es → row_in es key ≡ Some row → row.version ≤ m
below m [] key row falls e = absurd (let clash : ◌≡◌ {A = Option Row} None (Some row) = e in cc)
below m (x ∷ es) key row falls e = by_key (eq_by_cmp key_cmp key x.0) (below (x.1.version - 1) es key row falls.2) e
  where
    by_key : (b : Bool) → (row_in es key ≡ Some row → row.version ≤ x.1.version - 1) → cond b (Some x.1) (row_in es key) ≡ Some row → row.version ≤ m
    by_key true later is = let same : x.1.version ≡ row.version = ap version_in is in omega (arith, same, falls.1)
    by_key false later is = let few = later is in omega (arith, few, falls.1)

newest_first : (n : ℕ) (es : List Entry) (key : List ℕ) (row : Row) → 0 < n → Falls n es → row.version ≡ n → row_in es key ≡ Some row → EndsAt n es
newest_first n [] key row some falls is e = absurd (let clash : ◌≡◌ {A = Option Row} None (Some row) = e in cc)
newest_first n (x ∷ es) key row some falls is e = by_key (eq_by_cmp key_cmp key x.0) e
  where
    by_key : (b : Bool) → cond b (Some x.1) (row_in es key) ≡ Some row → x.1.version ≡ n
    by_key true same = ap version_in same ∙ is
    by_key false later = let few = below (x.1.version - 1) es key row falls.2 later in absurd (omega (arith, few, is, some, falls.1, falls.0))

snoc : (cs : List Change) → (cs ≡ []) ⊎ ((init : List Change) × (c : Change) × (cs ≡ init ++ c ∷ []))
snoc [] = inl refl
snoc (c ∷ cs) = elim (snoc cs) [
  | inl none ↦ inr ([], c, ap (λ (l : List Change). c ∷ l) none)
  | inr some ↦ inr (c ∷ some.0, some.1, ap (λ (l : List Change). c ∷ l) some.2)
]

-- ---- all together
stays_none : (C number : ℕ) (key : List ℕ) (rs : Rows) (row : Row) → get (after_change C number (Drop key) rs) key ≡ Some row → ⊥
stays_none C number key rs row e =
    let none = sym (fin.get-remove key_order rs key key) ∙ e in
    let kept = kept_of key key row (get rs key) (eq_by_cmp key_cmp key key) refl none in
    let itself = is_itself key in
    cc
  where
    is_itself : (k : List ℕ) → eq_by_cmp key_cmp k k ≡ true
    is_itself k = ap is_eq (tied_itself key_order k)

module _ (C : ℕ) (init : List Change) (key : List ℕ) (row : Row) (stood : get (after C init) key ≡ Some row) where
  -- no row after the remove has the version of the row that was removed
  other_version : (e : Entry) → get (after C (init ++ Drop key ∷ [])) e.0 ≡ Some e.1 → e.1.version ≢ row.version
  other_version e has same =
      let here = put_since C (init ++ Drop key ∷ []) e.0 e.1 has in
      let there = put_since C init key row stood in
      let v = here.version in
      let u = there.version in
      let place : there.place ≡ here.place = omega (arith, u, v, same) in
      let at = get_before init (Drop key ∷ []) there.place (Put key there.sets) there.there in
      let both : ◌≡◌ {A = Option Change} (Some (Put key there.sets)) (Some (Put e.0 here.sets)) = sym at ∙ ap (slice_get (init ++ Drop key ∷ [])) place ∙ here.there in
      let own : key ≡ e.0 = cc in
      stays_none C (length init + 1) key (after C init) e.1
      (ap (λ (m : Rows). get m key) (sym (after-append C init (Drop key))) ∙ ap (get (after C (init ++ Drop key ∷ []))) own ∙ has)

  others : (es : List Entry) → AllByRecursion (λ (e : Entry). get (after C (init ++ Drop key ∷ [])) e.0 ≡ Some e.1) es → AllByRecursion (λ (e : Entry). e.1.version ≢ row.version) es
  others [] all = tt
  others (e ∷ es) all = (other_version e all.0, others es all.1)

  by_drop : (es : List Entry) → Falls (length init) es → AllByRecursion (λ (e : Entry). get (after C (init ++ Drop key ∷ [])) e.0 ≡ Some e.1) es → length es < length init
  by_drop es falls all =
      let there = put_since C init key row stood in
      let v = there.version in
      let within = slice_get_within init there.place (Put key there.sets) there.there in
      one_missing (length init) row.version es falls (omega (arith, v)) (omega (arith, v, within)) (others es all)

row_of_some : (o : Option Row) → IsSome o → (row : Row) × (o ≡ Some row)
row_of_some None is = absurd (cc)
row_of_some (Some row) is = (row, refl)

falls_below : (n : ℕ) (es : List Entry) → Falls n es → EndsAt n es ⊎ Falls (n - 1) es
falls_below n [] falls = inr tt
falls_below n (e ∷ es) falls = elim (eqb_tells e.1.version n) [
  | inl last ↦ inl last.1
  | inr other ↦ inr (falls.0, omega (arith, falls.1, other.1), falls.2)
]

by_last : (C : ℕ) (init : List Change) (c : Change) (es : List Entry)
    → ((cs : List Change) (key : List ℕ) → init ++ c ∷ [] ≡ cs ++ Drop key ∷ [] → IsSome (get (after C cs) key))
    → Falls (length init + 1) es → AllByRecursion (λ (e : Entry). get (after C (init ++ c ∷ [])) e.0 ≡ Some e.1) es
    → ((key : List ℕ) (row : Row) → get (after C (init ++ c ∷ [])) key ≡ Some row → row_in es key ≡ Some row)
    → EndsAt (length init + 1) es ⊎ (length es + 2 ≤ length init + 1)
by_last C init (Put key sets) es stood falls are back =
    let put : Row = record { version = length init + 1; columns = new_columns sets 0 (columns_before C (get (after C init) key)) } in
    let at : get (after C (init ++ Put key sets ∷ [])) key ≡ Some put =
    ap (λ (m : Rows). get m key) (after-append C init (Put key sets)) ∙ fin.get-insert key_order (after C init) key put key ∙ ap (λ (b : Bool). cond b (Some put) (get (after C init) key)) (ap is_eq (tied_itself key_order key)) in
    inl (newest_first (length init + 1) es key put (omega arith) falls refl (back key put at))
by_last C init (Drop key) es stood falls are back = elim (falls_below (length init + 1) es falls) [
  | inl last ↦ inl last
  | inr lower ↦
      let some = row_of_some (get (after C init) key) (stood init key refl) in
      let one : length init + 1 - 1 ≡ length init = omega arith in
      let few = by_drop C init key some.0 some.1 es (subst (λ (k : ℕ). Falls k es) one lower) are in
      inr (omega (arith, few))
]

none_at_first : (es : List Entry) → Falls 0 es → EndsAt 0 es
none_at_first [] falls = refl
none_at_first (e ∷ es) falls = absurd (omega (arith, falls.0, falls.1))

by_commits : (C : ℕ) (commits : List Change) (es : List Entry)
    → ((cs : List Change) (key : List ℕ) → commits ≡ cs ++ Drop key ∷ [] → IsSome (get (after C cs) key))
    → Falls (length commits) es → AllByRecursion (λ (e : Entry). get (after C commits) e.0 ≡ Some e.1) es
    → ((key : List ℕ) (row : Row) → get (after C commits) key ≡ Some row → row_in es key ≡ Some row)
    → EndsAt (length commits) es ⊎ (length es + 2 ≤ length commits)
by_commits C commits es stood falls are back = elim (snoc commits) [
  | inl none ↦
      let zero_of : length commits ≡ 0 = ap length none in
      inl (subst (λ (k : ℕ). EndsAt k es) (sym zero_of) (none_at_first es (subst (λ (k : ℕ). Falls k es) zero_of falls)))
  | inr some ↦
      let (init, c, is) = some in
      let long : length commits ≡ length init + 1 = ap length is ∙ length-append init (c ∷ []) in
      subst (λ (k : ℕ). EndsAt k es ⊎ (length es + 2 ≤ k)) (sym long)
      (by_last C init c es (λ cs key e. stood cs key (is ∙ e)) (subst (λ (k : ℕ). Falls k es) long falls)
      (subst (λ (l : List Change). AllByRecursion (λ (e : Entry). get (after C l) e.0 ≡ Some e.1) es) is are)
      (subst (λ (l : List Change). (key : List ℕ) (row : Row) → get (after C l) key ≡ Some row → row_in es key ≡ Some row) is back))
]

pub legal_rows_pass : LegalRowsPass
legal_rows_pass C h es legal falls are back = by_commits C (moment h).commits es (at_last C h legal) falls are back
